-- How many host-ports a text has, whatever list is lent for them.
use Rattle.std.specs.Prelude.{ℕ, ◌≤◌, ◌<◌, ◌≡◌, Ok, Err, List, [], ◌∷◌, ◌++◌, length}
use Rattle.hostports.specs.HostPorts.{HostPortNumerals, host_port_text}
use Rattle.hostlists.specs.HostList.{fill_of, host_count}
use Rattle.hostlists.specs.HostLists.{ListText}

pub record HostCounts : Type 0 where
  -- into 64 entries or more: the number that filling answers, and none where it refuses
  pub filled : (text list : List ℕ) (n : ℕ) → 64 ≤ length list → fill_of text list ≡ Ok n → host_count text ≡ n
  pub refused : (text list : List ℕ) (k : ℕ) → 64 ≤ length list → fill_of text list ≡ Err k → host_count text ≡ 0
  -- as many as the list has; every other text has none
  pub list_counts : (text : List ℕ) (l : ListText text) → host_count text ≡ length l.hosts
  pub only_lists : (text : List ℕ) → 0 < host_count text → ListText text
  -- one host-port
  pub one : (h : HostPortNumerals) → host_count (host_port_text h) ≡ 1
  pub only_one : (text : List ℕ) → host_count text ≡ 1 → (h : HostPortNumerals) × (text ≡ host_port_text h)
  -- two of them
  pub two : (h i : HostPortNumerals) → host_count (host_port_text h ++ (32 ∷ host_port_text i)) ≡ 2
  -- the shortest list has 11 bytes, as 0,0,0,0,0,1 has
  pub shortest : (text : List ℕ) → ListText text → 11 ≤ length text
  pub shortest_one : (h : HostPortNumerals) × (host_port_text h ≡ 48 ∷ 44 ∷ 48 ∷ 44 ∷ 48 ∷ 44 ∷ 48 ∷ 44 ∷ 48 ∷ 44 ∷ 49 ∷ [])

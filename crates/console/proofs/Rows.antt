-- Which row an argument and a verb lead to.
use Prim.Native.Nat.{ℕ}
use mathlib.Core.Path.{◌≡◌}
use mathlib.Core.Logic.{◌⊎◌, inl, inr}
use mathlib.Core.Bool.{Bool, true, false, cond, ◌&&◌, and-false}
use mathlib.Core.List.{List}
use Rattle.console.specs.declared.state.Console.{Console}
use Rattle.console.specs.Rows.{MODE, PASV, PORT, REST, RETR, STOR, SPAS, SPOR, ERET, ESTO, SBUF, OPTS, Row, pasv, sbuf_opts, mode_row, spas_row, port_row, spor_row, stor_row, retr_row, rest_row, command_row}

-- ---- the verbs

module _ (s : Console) (v : ℕ) (text : List ℕ) where
  pub by_mode : v ≡ MODE → command_row s v text ≡ mode_row text
  by_mode e = rw e

  pub by-pasv : v ≡ PASV → command_row s v text ≡ pasv
  by-pasv e = rw e

  pub by-spas : v ≡ SPAS → command_row s v text ≡ spas_row s
  by-spas e = rw e

  pub by-port : v ≡ PORT → command_row s v text ≡ port_row text
  by-port e = rw e

  pub by-spor : v ≡ SPOR → command_row s v text ≡ spor_row s text
  by-spor e = rw e

  pub by-stor : (v ≡ STOR) ⊎ (v ≡ ESTO) → command_row s v text ≡ stor_row s
  by-stor (inl e) = rw e
  by-stor (inr e) = rw e

  pub by-retr : (v ≡ RETR) ⊎ (v ≡ ERET) → command_row s v text ≡ retr_row s
  by-retr (inl e) = rw e
  by-retr (inr e) = rw e

  pub by-rest : v ≡ REST → command_row s v text ≡ rest_row text
  by-rest e = rw e

  pub by-sbuf-opts : (v ≡ SBUF) ⊎ (v ≡ OPTS) → command_row s v text ≡ sbuf_opts
  by-sbuf-opts (inl e) = rw e
  by-sbuf-opts (inr e) = rw e

-- ---- one row of two

module _ (b : Bool) (x y : Row) where
  pub first : b ≡ true → cond b x y ≡ x
  first e = rw e

  pub second : b ≡ false → cond b x y ≡ y
  second e = rw e

-- both parts of a test hold, or one does not
module _ (a b : Bool) where
  pub and-true : a ≡ true → b ≡ true → (a && b) ≡ true
  and-true e f = rw (e, f)

  pub and_left : a ≡ false → (a && b) ≡ false
  and_left e = rw e

  pub and_right : b ≡ false → (a && b) ≡ false
  and_right e = rw (e, and-false a)

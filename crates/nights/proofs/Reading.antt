-- A recording read record by record: the cases as equations, and a reading of more bytes.
use Prim.Native.Nat.{ℕ, zero, suc, ◌≤◌, ◌<◌}
use mathlib.Core.Path.{◌≡◌, refl, ap, ◌∙◌}
use mathlib.Core.Bool.{Bool, true, false, cond}
use mathlib.Core.List.{List, [], ◌∷◌, ◌++◌, append_assoc}
use native.Mathlib.Omega.{arith}
use lib.ListN.{length, take, drop, length-drop}
use lib.Seq.{take-append-le, drop-append-le}
use Rattle.frames.specs.Frame.{first_record}
use Rattle.frames.specs.declared.frame.First.{First}
use Rattle.frames.specs.declared.frame.First.TheVariants.{Nothing, Cut, TooLong, Whole}
use Rattle.nights.specs.Request.{record_limit}
use Rattle.nights.specs.Reading.{Turn, prints, stops, Reading, Reader, waits, stops_at, printed_before, read_by, read}
use Rattle.frames.proofs.FirstRecord.{first-prefix-whole, first-prefix-long, first-nothing, first-of-none}

-- ---- one record, at any depth

module _ {W : Type 0} (f : Reader W) (d : ℕ) (w : W) (bytes : List ℕ) where
  by-nothing : first_record record_limit bytes ≡ Nothing → read_by (suc d) f w bytes ≡ waits w []
  unfolding read_by
  by-nothing e = rw (e, read_by)

  by-cut : first_record record_limit bytes ≡ Cut → read_by (suc d) f w bytes ≡ waits w bytes
  unfolding read_by
  by-cut e = rw (e, read_by)

  by-long : first_record record_limit bytes ≡ TooLong → read_by (suc d) f w bytes ≡ stops_at f w
  unfolding read_by
  by-long e = rw (e, read_by)

  module _ (n : ℕ) (whole : first_record record_limit bytes ≡ Whole n) where
    by-prints : (text : List ℕ) (v : W) → f.turn w (take n bytes) ≡ prints text v → read_by (suc d) f w bytes ≡ printed_before text (read_by d f v (drop n bytes))
    unfolding read_by
    by-prints text v e = rw (whole, read_by) (rw (e, read_by))

    by-stops : f.turn w (take n bytes) ≡ stops → read_by (suc d) f w bytes ≡ stops_at f w
    unfolding read_by
    by-stops e = rw (whole, read_by) (rw (e, read_by))

-- ---- how a reading comes about, record by record

pub data Reads {W : Type 0} (f : Reader W) : W → List ℕ → Reading W → Type 0 where
  reads_nothing : (w : W) (bytes : List ℕ) → first_record record_limit bytes ≡ Nothing → Reads f w bytes (waits w [])
  reads_cut : (w : W) (bytes : List ℕ) → first_record record_limit bytes ≡ Cut → Reads f w bytes (waits w bytes)
  reads_long : (w : W) (bytes : List ℕ) → first_record record_limit bytes ≡ TooLong → Reads f w bytes (stops_at f w)
  reads_malformed : (w : W) (bytes : List ℕ) (n : ℕ) → first_record record_limit bytes ≡ Whole n → f.turn w (take n bytes) ≡ stops → Reads f w bytes (stops_at f w)
  reads_on : (w v : W) (bytes text : List ℕ) (n : ℕ) (r : Reading W) → first_record record_limit bytes ≡ Whole n → f.turn w (take n bytes) ≡ prints text v
      → Reads f v (drop n bytes) r → Reads f w bytes (printed_before text r)

-- bytes that are too long are some
long-some : (bytes : List ℕ) → first_record record_limit bytes ≡ TooLong → 0 < length bytes
long-some [] e = let z : ◌≡◌ {A = ℕ} 0 1 = cc (first-of-none record_limit) in absurd (omega (arith, z))
long-some (b ∷ bs) e = omega arith

-- a whole record has four bytes or more, and at most all
whole-within : (bytes : List ℕ) (n : ℕ) → first_record record_limit bytes ≡ Whole n → (n ≤ length bytes) × (4 ≤ n)
whole-within bytes n e =
    let p = first-prefix-whole record_limit bytes [] n e in
    (p.1, p.2)

-- what follows it is shorter
whole-shorter : (bytes : List ℕ) (n d : ℕ) → first_record record_limit bytes ≡ Whole n → length bytes ≤ suc d → length (drop n bytes) ≤ d
whole-shorter bytes n d e h = omega (arith, whole-within bytes n e, length-drop n bytes)

module _ {W : Type 0} (f : Reader W) where
  -- every depth from the length on reads so
  read_by-reads : (d : ℕ) (w : W) (bytes : List ℕ) → length bytes ≤ d → Reads f w bytes (read_by d f w bytes)
  read_by-reads zero w [] h = unfold read_by in reads_nothing w [] (first-of-none record_limit)
  read_by-reads zero w (b ∷ bs) h = absurd (omega arith)
  read_by-reads (suc d) w bytes h = go (first_record record_limit bytes) refl (read_by-reads d)
    where
      turned : (n : ℕ) (t : Turn W) → first_record record_limit bytes ≡ Whole n → f.turn w (take n bytes) ≡ t
          → ((v : W) (rest : List ℕ) → length rest ≤ d → Reads f v rest (read_by d f v rest)) → Reads f w bytes (read_by (suc d) f w bytes)
      turned n (prints text v) q e i =
          rw (by-prints f d w bytes n q text v e) (reads_on w v bytes text n (read_by d f v (drop n bytes)) q e (i v (drop n bytes) (whole-shorter bytes n d q h)))
      turned n stops q e i = rw (by-stops f d w bytes n q e) (reads_malformed w bytes n q e)

      go : (x : First) → first_record record_limit bytes ≡ x → ((v : W) (rest : List ℕ) → length rest ≤ d → Reads f v rest (read_by d f v rest)) → Reads f w bytes (read_by (suc d) f w bytes)
      go Nothing q i = rw (by-nothing f d w bytes q) (reads_nothing w bytes q)
      go Cut q i = rw (by-cut f d w bytes q) (reads_cut w bytes q)
      go TooLong q i = rw (by-long f d w bytes q) (reads_long w bytes q)
      go (Whole n) q i = turned n (f.turn w (take n bytes)) q refl i

  -- and there is one reading only
  reads-read_by : (d : ℕ) {w : W} {bytes : List ℕ} {r : Reading W} → Reads f w bytes r → length bytes ≤ d → read_by d f w bytes ≡ r
  reads-read_by zero (reads_nothing w bytes q) h = unfold read_by in ap (waits w) (first-nothing record_limit bytes q)
  reads-read_by (suc d) (reads_nothing w bytes q) h = by-nothing f d w bytes q
  reads-read_by zero (reads_cut w bytes q) h = unfold read_by in refl
  reads-read_by (suc d) (reads_cut w bytes q) h = by-cut f d w bytes q
  reads-read_by zero (reads_long w bytes q) h = absurd (omega (arith, long-some bytes q))
  reads-read_by (suc d) (reads_long w bytes q) h = by-long f d w bytes q
  reads-read_by zero (reads_malformed w bytes n q e) h = absurd (omega (arith, whole-within bytes n q))
  reads-read_by (suc d) (reads_malformed w bytes n q e) h = by-stops f d w bytes n q e
  reads-read_by zero (reads_on w v bytes text n r q e t) h = absurd (omega (arith, whole-within bytes n q))
  reads-read_by (suc d) (reads_on w v bytes text n r q e t) h =
      by-prints f d w bytes n q text v e ∙ ap (printed_before text) (reads-read_by d t (whole-shorter bytes n d q h))

  pub read-reads : (w : W) (bytes : List ℕ) → Reads f w bytes (read f w bytes)
  unfolding read
  read-reads w bytes = read_by-reads (length bytes) w bytes (omega arith)

  pub reads-read : {w : W} {bytes : List ℕ} {r : Reading W} → Reads f w bytes r → read f w bytes ≡ r
  unfolding read
  reads-read {bytes = bytes} t = reads-read_by (length bytes) t (omega arith)

-- ---- the cases

module _ {W : Type 0} (f : Reader W) (w : W) where
  module _ (bytes : List ℕ) where
    pub read-nothing : first_record record_limit bytes ≡ Nothing → read f w bytes ≡ waits w []
    read-nothing q = reads-read f (reads_nothing w bytes q)

    pub read-cut : first_record record_limit bytes ≡ Cut → read f w bytes ≡ waits w bytes
    read-cut q = reads-read f (reads_cut w bytes q)

    pub read-long : first_record record_limit bytes ≡ TooLong → read f w bytes ≡ stops_at f w
    read-long q = reads-read f (reads_long w bytes q)

    module _ (n : ℕ) where
      pub read-prints : (text : List ℕ) (v : W) → first_record record_limit bytes ≡ Whole n → f.turn w (take n bytes) ≡ prints text v
          → read f w bytes ≡ printed_before text (read f v (drop n bytes))
      read-prints text v q e = reads-read f (reads_on w v bytes text n (read f v (drop n bytes)) q e (read-reads f v (drop n bytes)))

      pub read-stops : first_record record_limit bytes ≡ Whole n → f.turn w (take n bytes) ≡ stops → read f w bytes ≡ stops_at f w
      read-stops q e = reads-read f (reads_malformed w bytes n q e)

  pub read_none : read f w [] ≡ waits w []
  read_none = read-nothing [] (first-of-none record_limit)

-- ---- more bytes

-- a reading, and where it has not stopped what more bytes add
abbrev pub followed : {W : Type 0} → Reader W → Reading W → List ℕ → Reading W
followed f r more = cond r.stopped r (printed_before r.text (read f r.left (r.rest ++ more)))

followed-printed : {W : Type 0} (f : Reader W) (text : List ℕ) (r : Reading W) (more : List ℕ) → printed_before text (followed f r more) ≡ followed f (printed_before text r) more
followed-printed f text r more = go r.stopped refl
  where
    go : (b : Bool) → r.stopped ≡ b → printed_before text (followed f r more) ≡ followed f (printed_before text r) more
    go true e = rw e
    go false e = rw (e, append_assoc)

module _ {W : Type 0} (f : Reader W) (b : List ℕ) where
  reads-append : {w : W} {a : List ℕ} {r : Reading W} → Reads f w a r → read f w (a ++ b) ≡ followed f r b
  reads-append (reads_nothing w a q) = rw (first-nothing record_limit a q)
  reads-append (reads_cut w a q) = refl
  reads-append (reads_long w a q) = read-long f w (a ++ b) (first-prefix-long record_limit a b q)
  reads-append (reads_malformed w a n q e) =
      let p = first-prefix-whole record_limit a b n q in
      read-stops f w (a ++ b) n p.0 (rw (take-append-le n a b p.1) e)
  reads-append (reads_on w v a text n r q e t) =
      let p = first-prefix-whole record_limit a b n q in
      read-prints f w (a ++ b) n text v p.0 (rw (take-append-le n a b p.1) e)
      ∙ rw (drop-append-le n a b p.1) (ap (printed_before text) (reads-append t) ∙ followed-printed f text r b)

pub read-append : {W : Type 0} (f : Reader W) (w : W) (a b : List ℕ)
    → read f w (a ++ b) ≡ cond (read f w a).stopped (read f w a) (printed_before (read f w a).text (read f (read f w a).left ((read f w a).rest ++ b)))
read-append f w a b = reads-append f b (read-reads f w a)

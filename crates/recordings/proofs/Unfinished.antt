-- What a reading leaves of the bytes is not one whole record.
use Prim.Native.Nat.{ℕ, ◌<◌}
use mathlib.Core.Path.{◌≡◌, refl}
use mathlib.Core.Bool.{true}
use mathlib.Core.List.{List, []}
use native.Mathlib.Omega.{arith}
use lib.ListN.{length}
use Rattle.frames.specs.Frame.{first_record}
use Rattle.frames.specs.declared.frame.First.TheVariants.{Cut}
use Rattle.frames.proofs.FirstRecord.{first-of-none, first-cut}
use Rattle.nights.specs.Request.{record_limit}
use Rattle.nights.specs.Reading.{Reading, Reader, read}
use Rattle.nights.proofs.Reading.{Reads, reads_nothing, reads_cut, reads_long, reads_malformed, reads_on, read-reads}
use Rattle.recordings.specs.Kept.{held_limit, is_unfinished}

abbrev pub RestOf : {W : Type 0} → Reading W → Type 0
RestOf r = (is_unfinished r.rest ≡ true) × (length r.rest < held_limit) × (r.stopped ≡ true → r.rest ≡ [])

pub unfinished-none : is_unfinished [] ≡ true
unfolding is_unfinished
unfinished-none = rw (first-of-none record_limit, is_unfinished)

pub unfinished-cut : (bytes : List ℕ) → first_record record_limit bytes ≡ Cut → is_unfinished bytes ≡ true
unfolding is_unfinished
unfinished-cut bytes e = rw (e, is_unfinished)

reads-rest : {W : Type 0} {f : Reader W} {w : W} {bytes : List ℕ} {r : Reading W} → Reads f w bytes r → RestOf r
reads-rest (reads_nothing w bytes q) = (unfinished-none, omega arith, λ e. refl)
reads-rest (reads_cut w bytes q) = (unfinished-cut bytes q, omega (arith, first-cut record_limit bytes q), λ e. cc)
reads-rest (reads_long w bytes q) = (unfinished-none, omega arith, λ e. refl)
reads-rest (reads_malformed w bytes n q e) = (unfinished-none, omega arith, λ e. refl)
reads-rest (reads_on w v bytes text n r q e t) = reads-rest t

-- not one whole record, fewer bytes than the longest has, and none where the reading has stopped
pub read-rest : {W : Type 0} (f : Reader W) (w : W) (bytes : List ℕ) → RestOf (read f w bytes)
read-rest f w bytes = reads-rest (read-reads f w bytes)

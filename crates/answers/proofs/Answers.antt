-- `Answers` holds.
use mathlib.Core.Path.{refl}
use lib.ListN.{length}
use Rattle.answers.specs.Written.{written_bytes}
use Rattle.answers.specs.Answers.{Answers}
use Rattle.answers.proofs.Numbers.{apart, above_0}
use Rattle.answers.proofs.WrittenBy.{first_some, first-none, room-short, room-enough, refuses, writes}

pub answers : Answers
unfolding written_bytes
answers =
    record {
      apart = apart;
      above_0 = above_0;
      loaded = λ u. refl;
      not_loaded = λ k. refl;
      written = λ n. (refl, refl);
      not_written = λ k. (refl, refl);
      first_refuses = first_some;
      next_refuses = λ m. first-none 0 m refl;
      too_few = room-short;
      enough = room-enough;
      refused_by = λ k n text out h. refuses k n text out k refl h;
      written_by_is = λ text out. writes 0 (length text) text out refl refl;
    }

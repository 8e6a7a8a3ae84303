-- What the tests of a call's error, which the code makes, say of `judged`, and how far a call reaches.
-- Assumes nothing.
use Rattle.std.proofs.Common.{Bool, true, false, cond, List, ◌≡◌, refl, sym, ◌∙◌, ℕ, zero, suc, ◌≤◌, arith, length, Result, Ok, Err, ◌<◌, ◌^◌, ℤ}
use lib.IntN.{pos, negsuc}
use lib.Signed.{mag}
use mir.Syntax.{w32}
use mir.Val.{of_z}
use borrow.Author.Tests.{eq-eqb, ne_eqb}
use Rattle.std.specs.Io.{WritesAtMost}
use Rattle.std.specs.declared.io.Error.{Error}
use Rattle.program_streams.specs.Calls.{interrupted, unready, is, number_of, judged, judged_error, Call}
use Rattle.program_streams.specs.declared.Told.{Told}
use Rattle.program_streams.specs.declared.Told.TheVariants.{Bytes, Nothing, Again, Later, Failed}

-- the number's bits are those of n
is_yes : (n : ℕ) (number : ℤ) → mag number < 2 ^ 31 → n < 2 ^ 31 → of_z w32 number ≡ n → is n number ≡ true
unfolding is
is_yes n (pos k) f h e = eq-eqb k n e
is_yes n (negsuc k) f h e = absurd (omega arith)

is_no : (n : ℕ) (number : ℤ) → (of_z w32 number ≡ n → ⊥) → is n number ≡ false
unfolding is
is_no n (pos k) e = ne_eqb k n e
is_no n (negsuc k) e = refl

-- the tests of an error's number, as the code makes them
module _ (e : Error) (number : ℤ) (x : number ≡ number_of e) (f : mag number < 2 ^ 31) where
  pub told_again : of_z w32 number ≡ interrupted → Again ≡ judged_error e
  unfolding judged_error
  told_again a = rw (← x, is_yes interrupted number f (omega arith) a)

  pub told_later : (of_z w32 number ≡ interrupted → ⊥) → of_z w32 number ≡ unready → Later ≡ judged_error e
  unfolding judged_error
  told_later a b = rw (← x, is_no interrupted number a, is_yes unready number f (omega arith) b)

  pub told_failed : (of_z w32 number ≡ interrupted → ⊥) → (of_z w32 number ≡ unready → ⊥) → Failed e ≡ judged_error e
  unfolding judged_error
  told_failed a b = rw (← x, is_no interrupted number a, is_no unready number b)

pub told_nothing : (went : Result ℕ Error) (n : ℕ) → went ≡ Ok n → n ≡ 0 → Nothing ≡ judged went
unfolding judged
told_nothing (Ok zero) n e h = refl
told_nothing (Ok (suc k)) n e h = absurd (cc)
told_nothing (Err error) n e h = absurd (cc)

pub told_bytes : (went : Result ℕ Error) (n : ℕ) → went ≡ Ok n → (n ≡ 0 → ⊥) → Bytes n ≡ judged went
unfolding judged
told_bytes went zero e h = absurd (h refl)
told_bytes went (suc n) e h = rw e refl

-- the bytes that a call moved are within what it was lent
moved_within : (bytes : List ℕ) (n : ℕ) (went : Result ℕ Error) → WritesAtMost went bytes → Bytes n ≡ judged went → n ≤ length bytes
unfolding judged judged_error
moved_within bytes n (Ok zero) m h = absurd (cc)
moved_within bytes n (Ok (suc k)) m h = let e : n ≡ suc k = cc in omega arith
moved_within bytes n (Err error) m h = go (is interrupted (number_of error)) (is unready (number_of error)) h
  where
    go : (t u : Bool) → Bytes n ≡ cond t Again (cond u Later (Failed error)) → n ≤ length bytes
    go true u h = absurd (cc)
    go false true h = absurd (cc)
    go false false h = absurd (cc)

-- a call of bytes that moved n of them
pub call_within : (bytes : List ℕ) (n : ℕ) {r : Told} → Call bytes r → r ≡ Bytes n → n ≤ length bytes
call_within bytes n k e = moved_within bytes n k.went k.moved (sym e ∙ k.tells)

-- What a word asks for, from the tests of it in their order.
-- Assumes nothing.
use mathlib.Core.Path.{◌≡◌, refl, ap, ◌∙◌}
use mathlib.Core.Bool.{Bool, true, false, cond, ◌||◌, ◌&&◌}
use mathlib.Core.List.{List, [], ◌∷◌}
use Prim.Native.Nat.{ℕ}
use lib.Dec.{eqb}
use lib.Pointwise.{pointwise}
use Rattle.common_laws.specs.Bytes.{bytes_of}
use Rattle.common_laws.specs.Lists.{same}
use Rattle.program_options.specs.declared.Word.TheVariants.{Help, Version, End, Unknown}
use Rattle.program_options.specs.Options.{option_of}

-- `==` of bytes is the test of the definition
same_by : (x y : List ℕ) → pointwise eqb x y ≡ same x y
unfolding same
same_by [] [] = refl
same_by [] (b ∷ y) = refl
same_by (a ∷ x) [] = refl
same_by (a ∷ x) (b ∷ y) = go (eqb a b) (same_by x y)
  where
    go : (t : Bool) → pointwise eqb x y ≡ same x y → (t && pointwise eqb x y) ≡ cond t (same x y) false
    go true e = e
    go false e = refl

-- the answer of `==` with a word
pub same_as : (word text : List ℕ) {given : List ℕ} {r : Bool} → r ≡ pointwise eqb word given → given ≡ text → r ≡ same word text
same_as word text e t = e ∙ ap (pointwise eqb word) t ∙ same_by word text

module _ (word : List ℕ) {a b : Bool} (ea : a ≡ same word (bytes_of "-h")) (eb : b ≡ same word (bytes_of "--help")) where
  pub option_help : a || b ≡ true → Help ≡ option_of word
  unfolding option_of
  option_help h = rw (← ea, ← eb, h)

  module _ (no-help : a || b ≡ false) {v : Bool} (ev : v ≡ same word (bytes_of "--version")) where
    pub option_version : v ≡ true → Version ≡ option_of word
    unfolding option_of
    option_version h = rw (← ea, ← eb, no-help, ← ev, h)

    module _ (no-version : v ≡ false) {e : Bool} (ee : e ≡ same word (bytes_of "--")) where
      pub option_end : e ≡ true → End ≡ option_of word
      unfolding option_of
      option_end h = rw (← ea, ← eb, no-help, ← ev, no-version, ← ee, h)

      pub option_unknown : e ≡ false → Unknown ≡ option_of word
      unfolding option_of
      option_unknown h = rw (← ea, ← eb, no-help, ← ev, no-version, ← ee, h)

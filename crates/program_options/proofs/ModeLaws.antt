-- What the words ask for, from the tests of their count and of the first one.
-- Assumes nothing.
use mathlib.Core.Path.{◌≡◌}
use mathlib.Core.Bool.{true, false, ◌&&◌}
use mathlib.Core.List.{List}
use Prim.Native.Nat.{ℕ, ◌-◌, ◌≤◌, ◌<◌}
use lib.Dec.{leb}
use lib.ListN.{get_or, take}
use borrow.Author.Tests.{eq-eqb, ne_eqb, le-leb, lt-leb}
use Rattle.program_options.specs.declared.Mode.{Mode}
use Rattle.program_options.specs.declared.Mode.TheVariants.{Operands, Wrong}
use Rattle.program_options.specs.declared.Word.{Word}
use Rattle.program_options.specs.Options.{option_of, operands_from, lone_option, mode_by, mode_of}

module _ (count first least most : ℕ) where
  module _ (h : first ≤ count) where
    pub operands_some : (leb least (count - first) && leb (count - first) most) ≡ true
        → Operands first ≡ operands_from count first least most
    unfolding operands_from
    operands_some e = rw (le-leb first count h, e)

    pub operands_others : (leb least (count - first) && leb (count - first) most) ≡ false
        → Wrong ≡ operands_from count first least most
    unfolding operands_from
    operands_others e = rw (le-leb first count h, e)

  pub operands_lack : count < first → Wrong ≡ operands_from count first least most
  unfolding operands_from
  operands_lack h = rw (lt-leb first count h)

module _ (count : ℕ) (asked : Mode) where
  pub option_alone : count ≡ 2 → asked ≡ lone_option count asked
  unfolding lone_option
  option_alone e = rw (eq-eqb count 2 e)

  pub option_beside : (count ≡ 2 → ⊥) → Wrong ≡ lone_option count asked
  unfolding lone_option
  option_beside d = rw (ne_eqb count 2 d)

-- the first word, by the byte that it begins with
module _ (count : ℕ) (room : List ℕ) (n least most : ℕ) {r : Mode} where
  pub first_option : get_or room 0 0 ≡ 45 → {option : Word} → option ≡ option_of (take n room) → r ≡ mode_by option count least most
      → r ≡ mode_of count room n least most
  unfolding mode_of
  first_option e q p = rw (eq-eqb (get_or room 0 0) 45 e, ← q) p

  pub first_operand : (get_or room 0 0 ≡ 45 → ⊥) → r ≡ operands_from count 1 least most → r ≡ mode_of count room n least most
  unfolding mode_of
  first_operand d p = rw (ne_eqb (get_or room 0 0) 45 d) p

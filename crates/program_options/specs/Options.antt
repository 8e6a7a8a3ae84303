-- The options of the programs, and what the words after a program's name ask for.
-- Assumes nothing.
use Rattle.std.specs.Prelude.{cond, ◌&&◌, ◌||◌, List, ◌≡◌, ℕ, ◌-◌, eqb, leb, length, get_or, take}
use Rattle.io.specs.Counts.{IsPrefixLen}
use Rattle.common_laws.specs.Bytes.{bytes_of}
use Rattle.common_laws.specs.Lists.{same}
use Rattle.program_options.specs.declared.Mode.{Mode}
use Rattle.program_options.specs.declared.Mode.TheVariants as mode
use Rattle.program_options.specs.declared.Word.{Word}
use Rattle.program_options.specs.declared.Word.TheVariants.{Help, Version, End, Unknown}

-- what a word that begins with `-` asks for
unfoldable pub option_of : List ℕ → Word
option_of word =
    cond (same word (bytes_of "-h") || same word (bytes_of "--help")) Help
    (cond (same word (bytes_of "--version")) Version
    (cond (same word (bytes_of "--")) End
    Unknown))

-- of `count` words, the program's name among them, those from index `first` on are as many operands as the program takes
unfoldable pub operands_from : ℕ → ℕ → ℕ → ℕ → Mode
operands_from count first least most =
    cond (leb first count && (leb least (count - first) && leb (count - first) most)) (mode.Operands first) mode.Wrong

-- an option that is asked for alone, after the program's name
unfoldable pub lone_option : ℕ → Mode → Mode
lone_option count asked = cond (eqb count 2) asked mode.Wrong

-- what an option asks for; after `--` stand the operands
unfoldable pub mode_by : Word → ℕ → ℕ → ℕ → Mode
mode_by Help count least most = lone_option count mode.Help
mode_by Version count least most = lone_option count mode.Version
mode_by End count least most = operands_from count 2 least most
mode_by Unknown count least most = mode.Wrong

-- What `count` words ask of a program that takes from `least` to `most` operands. The word after its name was put into `room` and has
-- n bytes there, 0 if there is none or it is too long; it is an option if it begins with `-`.
unfoldable pub mode_of : ℕ → List ℕ → ℕ → ℕ → ℕ → Mode
mode_of count room n least most =
    cond (eqb (get_or room 0 0) 45) (mode_by (option_of (take n room)) count least most) (operands_from count 1 least most)

-- r is what some words ask for. The library promises of a word only that its bytes fit the room, and of the count nothing.
pub record Asked (least most : ℕ) (r : Mode) : Type 0 where
  pub count : ℕ
  pub room : List ℕ
  pub n : ℕ
  pub fits : IsPrefixLen n room
  pub sized : length room ≡ 4096
  pub asks : r ≡ mode_of count room n least most

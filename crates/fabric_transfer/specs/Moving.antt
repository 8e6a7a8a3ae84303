-- Bytes moved into a list (rules 3.2, 4.11, 6.8).
-- Assumes nothing.
use Rattle.std.specs.Prelude.{Bool, true, cond, List, ℕ, zero, suc, ◌+◌, get_or, set}

-- every byte
abbrev pub all : ℕ → Bool
all t = true

-- byte t of those that begin at index `from` of a list; past its end 0
abbrev pub bytes_from : List ℕ → ℕ → ℕ → ℕ
bytes_from list from = λ t. get_or list (from + t) 0

-- where byte t of those goes that begin at index `at`
abbrev pub index_from : ℕ → ℕ → ℕ
index_from at = λ t. at + t

-- bytes first .. first + n − 1 of a transfer: byte t, which is `byte t`, goes to index `at t` of target, where it is enabled. An
-- index past the target takes nothing: `set` changes no list there.
unfoldable pub move : (ℕ → Bool) → (ℕ → ℕ) → (ℕ → ℕ) → ℕ → ℕ → List ℕ → List ℕ
move enabled byte at first zero target = target
move enabled byte at first (suc n) target =
    let t = first + n in
    let before = move enabled byte at first n target in
    cond (enabled t) (set before (at t) (byte t)) before

-- The line before a file's page.
-- Assumes nothing.
use mathlib.Core.List.{List, [], ◌∷◌}
use mathlib.Core.Path.{◌≡◌}
use Prim.Native.Nat.{ℕ, ◌+◌, ◌≤◌}
use native.Mathlib.Omega.{arith}
use lib.ListN.{length, length-append}
use Rattle.common_laws.specs.Bytes.{bytes_of}
use Rattle.common_text.specs.Fields.{line_feed}
use Rattle.common_text.specs.Code.Scanning.{Put}
use Rattle.common_text.proofs.Puts.{put_then, put_front}
use Rattle.wait_table.specs.Tables.{file_line, Begins}
use Rattle.wait_table.proofs.PrintLaws.{begins}

module _ (name : List ℕ) where
  file_length : length (file_line name) ≡ length name + 6
  unfolding file_line bytes_of
  file_length = omega (arith, length-append name (line_feed ∷ []))

  -- three texts, one after another
  pub line_begins : {before p q line : List ℕ} {a r n : ℕ} → Put before 0 (bytes_of "file,") p a → Put p a name q r
      → Put q r (line_feed ∷ []) line n → length name + 6 ≤ length before → Begins (file_line name) line n
  unfolding file_line bytes_of
  line_begins {before} {line = line} {n = n} front middle end room =
      let x : Put before 0 (file_line name) line n = put_then front (put_then middle end) in
      begins (file_line name) line before n (put_front x (omega (arith, file_length))) (omega (arith, x.end))

-- Texts that are written one behind another.
-- Assumes nothing.
use mathlib.Core.List.{List, [], ◌∷◌, ◌++◌}
use mathlib.Core.Path.{◌≡◌, refl, ap, ap₂, sym, ◌∙◌}
use Prim.Native.Nat.{ℕ, ◌+◌, ◌/◌, ◌%◌, ◌^◌, ◌≤◌, ◌<◌}
use native.Mathlib.Omega.{arith}
use lib.ListN.{length, get_or, take, drop, length-append}
use lib.Seq.{sets, length-sets, sets-eq, take_all}
use borrow.Rule.Slice.PartMut.{put_mid}
use Rattle.std.proofs.lemmas.Slice.{put_mid-paste}
use Rattle.common_laws.proofs.TextLists.{sets_append}
use Rattle.common_text.specs.Digits.{digits, fields_text}
use Rattle.common_text.specs.Fields.{comma}
use Rattle.common_text.specs.Code.Scanning.{Put, HasRoom, Wrote, two_digits, four_digits}
use Rattle.common_text.specs.declared.Writer.{Writer}
use Rattle.common_text.proofs.Decimal.{digits_last_two, digits_last_four, fields_more}

-- nothing written
pub put_none : (o : List ℕ) (at : ℕ) → Put o at [] o at
put_none o at = record { end = omega arith; bytes = refl }

-- one text behind another
pub put_then :
    {o p q : List ℕ} {at r t : ℕ} {A B : List ℕ} → Put o at A p r → Put p r B q t → Put o at (A ++ B) q t
put_then {o} {p} {q} {at} {r} {t} {A} {B} x y =
    record {
      end = omega (arith, x.end, y.end, length-append A B);
      bytes = y.bytes ∙ ap₂ (λ (l : List ℕ) (k : ℕ). sets l k B) x.bytes x.end ∙ sym (sets_append o at A B);
    }

-- a text copied into its part
pub put_part :
    (o s : List ℕ) (at k : ℕ) (copied : List ℕ) → copied ≡ s → length s ≡ k → at + length s ≤ length o
    → Put o at s (put_mid at k o copied) (at + length s)
put_part o s at k copied e f h =
    record {
      end = refl;
      bytes =
          put_mid-paste at k o copied s (length s) e f refl
          ∙ ap (λ (l : List ℕ). take at o ++ l ++ drop (at + length s) o) (take_all (length s) s (omega arith))
          ∙ sym (sets-eq s o at h);
    }

-- the length stays
pub put_length : {o p : List ℕ} {at r : ℕ} {A : List ℕ} → Put o at A p r → length p ≡ length o
put_length {o} {p} {at} {r} {A} x = ap length x.bytes ∙ length-sets o at A

-- a text stored at the front: the bytes behind it stay
pub put_front :
    {o p : List ℕ} {r : ℕ} {A : List ℕ} → Put o 0 A p r → length A ≤ length o → p ≡ A ++ drop (length A) o
put_front {o} {p} {r} {A} x h =
    let e : 0 + length A ≡ length A = omega arith in
    x.bytes ∙ sets-eq A o 0 (omega arith) ∙ ap (λ (k : ℕ). A ++ drop k o) e

-- the last two digits of n behind the others
pub put_last_two :
    {o p q : List ℕ} {at r t : ℕ} (n : ℕ) → 100 ≤ n → n < 10 ^ 20 → Put o at (digits (n / 100)) p r
    → Put p r (two_digits (n % 100)) q t → Put o at (digits n) q t
put_last_two n h g x y = rw (digits_last_two n h g) (put_then x y)

-- the last four
pub put_last_four :
    {o p q : List ℕ} {at r t : ℕ} (n : ℕ) → 10000 ≤ n → n < 10 ^ 20 → Put o at (digits (n / 10000)) p r
    → Put p r (four_digits (n % 10000)) q t → Put o at (digits n) q t
put_last_four n h g x y = rw (digits_last_four n h g) (put_then x y)

-- a writer that has written nothing
pub wrote_none : (w : Writer) → Wrote w [] w
wrote_none w = record { put = put_none _ _; same = refl }

-- one text after another
pub wrote_then : {u v w : Writer} {A B : List ℕ} → Wrote u A v → Wrote v B w → Wrote u (A ++ B) w
wrote_then x y = record { put = put_then x.put y.put; same = y.same ∙ x.same }

-- the room for a text that goes on
pub room_first : (w : Writer) (A B : List ℕ) → HasRoom w (A ++ B) → HasRoom w A
room_first w A B h = omega (arith, h, length-append A B)

pub room_then : {v w : Writer} {A : List ℕ} (B : List ℕ) → HasRoom v (A ++ B) → Wrote v A w → HasRoom w B
room_then {v} {w} {A} B h x = omega (arith, h, x.put.end, put_length x.put, length-append A B)

-- field i of a line after those before it
pub wrote_next :
    {u v w : Writer} (ns : List ℕ) (i : ℕ) → i < length ns → Wrote u (fields_text (take i ns)) v
    → Wrote v (comma ∷ digits (get_or ns i 0)) w → Wrote u (fields_text (take (i + 1) ns)) w
wrote_next ns i h x y = rw (fields_more ns i h) (wrote_then x y)

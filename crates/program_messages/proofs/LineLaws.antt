-- Bytes that are put at the end of a line, as far as they fit.
-- Assumes nothing.
use Rattle.std.proofs.Common.{arith, List, [], ◌∷◌, ◌++◌, ◌≡◌, refl, ap, ap₂, sym, ◌∙◌, ℕ, zero, suc, ◌+◌, ◌-◌, ◌≤◌, min, length, take, append_assoc, length-take-le}
use Rattle.std.proofs.lemmas.List.{take_min, take-append-le}
use lib.Seq.{take-append-add}
use Rattle.std.proofs.lemmas.Slice.{take-put_mid}
use borrow.Rule.Slice.PartMut.{put_mid, same_len_mid}
use Rattle.program_messages.specs.Code.Messages.{head, with, Holds, Said, begun, told, headed}

-- the line that the first `filled` bytes of a room are
abbrev pub in_room : List ℕ → ℕ → Said
in_room room filled = record { most = length room; said = take filled room }

at_most : {a b : Said} → a ≡ b → a.most ≡ b.most
at_most e = ap (λ (x : Said). x.most) e

in_said : {a b : Said} → a ≡ b → a.said ≡ b.said
in_said e = ap (λ (x : Said). x.said) e

-- a room whose first `at` bytes are a line
pub begun_at : (room : List ℕ) (at filled : ℕ) → filled ≡ min at (length room) → in_room room filled ≡ begun room at
unfolding begun
begun_at room at filled e =
    ap (λ (l : List ℕ). record { most = length room; said = l }) (ap (λ (k : ℕ). take k room) e ∙ take_min at room)

take_front : (n : ℕ) (x y : List ℕ) (m : ℕ) → n ≡ length x + m → take n (x ++ y) ≡ x ++ take m y
take_front n x y m e = ap (λ (k : ℕ). take k (x ++ y)) e ∙ take-append-add x y m

-- a room after bytes are put into it after its first `at`
pub holds_put :
    (room bytes copied : List ℕ) (at from n k : ℕ) → from ≡ min at (length room)
    → n ≡ min (length room - from) (length bytes) → copied ≡ take n bytes
    → length (put_mid from k room copied) ≡ length room
    → Holds (put_mid from k room copied) (from + n) (take at room ++ bytes)
holds_put room bytes copied at from n k e g c l =
    let f : from ≤ length room = omega (arith, e) in
    let m : length copied ≡ n = ap length c ∙ length-take-le n bytes (omega (arith, g)) in
    let t : take from room ≡ take at room = ap (λ (i : ℕ). take i room) e ∙ take_min at room in
    let x : length (take at room) ≡ from = ap length (sym t) ∙ length-take-le from room f in
    record {
      same =
          take-put_mid from k room copied (from + n) (omega (arith, m)) f
          ∙ ap₂
          (λ (a b : List ℕ). a ++ b)
          t
          (c ∙ ap (λ (i : ℕ). take i bytes) g ∙ take_min (length room - from) bytes)
          ∙ sym (take_front (length (put_mid from k room copied)) (take at room) bytes (length room - from) (omega (arith, x, l, f)));
      fits =
          (omega (arith, l, g, f), sym (length-take-le (from + n) (put_mid from k room copied) (omega (arith, l, g, f))));
    }

-- what does not fit is cut once
take_cut : (n : ℕ) (x y : List ℕ) → take n (take n x ++ y) ≡ take n (x ++ y)
take_cut zero x y = refl
take_cut (suc n) [] y = refl
take_cut (suc n) (b ∷ x) y = ap (λ (l : List ℕ). b ∷ l) (take_cut n x y)

-- one text after another
holds_then :
    (room after x y : List ℕ) (at r : ℕ) → length after ≡ length room → Holds room at x
    → Holds after r (take at room ++ y) → Holds after r (x ++ y)
holds_then room after x y at r l p q =
    record {
      same = q.same ∙ ap (λ (z : List ℕ). take (length after) (z ++ y)) p.same ∙ rw l (take_cut (length room) x y);
      fits = q.fits;
    }

pub holds_head :
    (a b c program what : List ℕ) (i j k : ℕ) → length b ≡ length a → length c ≡ length b → Holds a i program
    → Holds b j (take i a ++ (58 ∷ 32 ∷ [])) → Holds c k (take j b ++ what) → Holds c k (head program what)
unfolding head
holds_head a b c program what i j k l m p q r =
    let t = holds_then b c (program ++ (58 ∷ 32 ∷ [])) what j k m (holds_then a b program (58 ∷ 32 ∷ []) i j l p q) r in
    rw append_assoc at t

-- a line after bytes are put into its room
pub told_in :
    (room after bytes : List ℕ) (line : Said) (filled r : ℕ) → in_room room filled ≡ line → filled ≤ length room
    → Holds after r (take filled room ++ bytes) → length after ≡ length room → in_room after r ≡ told line bytes
unfolding told with
told_in room after bytes line filled r v h p l =
    let n : length (take filled room) ≡ filled = length-take-le filled room h in
    let s : length line.said ≡ filled = ap length (sym (in_said v)) ∙ n in
    ap₂
    (λ (k : ℕ) (t : List ℕ). record { most = k; said = t })
    (l ∙ at_most v)
    (
    p.same ∙ take_front (length after) (take filled room) bytes (length room - filled) (omega (arith, n, l, h))
    ∙ ap₂ (λ (a : List ℕ) (k : ℕ). a ++ take k bytes) (in_said v) (ap₂ (λ (i j : ℕ). i - j) (at_most v) (sym s))
    )

-- a line after its head is put into a part of its room
pub headed_in :
    (room part after program what : List ℕ) (most r : ℕ) → most ≡ min 8192 (length room)
    → Holds part r (head program what) → length part ≡ most → after ≡ put_mid 0 most room part
    → in_room after r ≡ headed (length room) program what
unfolding headed
headed_in room part after program what most r e p l q =
    let g : most ≤ length room = omega (arith, e) in
    ap₂
    (λ (k : ℕ) (t : List ℕ). record { most = k; said = t })
    (ap length q ∙ same_len_mid 0 most room part (l ∙ sym (length-take-le most room g)))
    (
    ap (take r) q ∙ take-append-le r part _ p.fits.0 ∙ p.same ∙ ap (λ (k : ℕ). take k (head program what)) (l ∙ e)
    )

-- a line after its head, in the room that each line of a program has
pub headed_whole :
    {line : Said} (most : ℕ) (program what : List ℕ) → most ≡ 8704 → line ≡ headed most program what
    → line ≡ record { most = 8704; said = take 8192 (head program what) }
unfolding headed
headed_whole most program what e h =
    h ∙ ap (λ (k : ℕ). record { most = k; said = take (min 8192 k) (head program what) }) e

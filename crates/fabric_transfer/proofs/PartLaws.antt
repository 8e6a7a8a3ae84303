-- A move into a part of a list that is lent, or out of one.
-- Assumes nothing.
use mathlib.Core.Path.{◌≡◌, refl, sym, ap, subst, ◌∙◌}
use mathlib.Core.Bool.{Bool, true, false}
use mathlib.Core.List.{List, ◌++◌}
use Prim.Native.Nat.{ℕ, zero, suc, ◌+◌, ◌-◌, ◌≤◌, ◌<◌}
use native.Mathlib.Nat.{zero-add, add-suc}
use native.Mathlib.Omega.{arith}
use lib.ListN.{length, get_or, take, drop, take-append-drop, length-take, length-drop}
use lib.Seq.{paste, take-set-le, take-set-lt, drop-set-add, drop-set-lt}
use borrow.Rule.Slice.PartMut.{put_mid}
use Rattle.std.proofs.lemmas.List.Edits.{paste_none, paste_more}
use Rattle.std.proofs.lemmas.Slice.{put_mid-paste}
use Rattle.fabric_transfer.specs.Moving.{all, bytes_from, index_from, move}
use Rattle.fabric_transfer.proofs.MoveLaws.{put, move_put, move_same}
use Rattle.fabric_transfer.proofs.Ranges.{front, front_at, move_source}

-- ---- one byte

put_take : (on : Bool) (k : ℕ) (d : List ℕ) (i v : ℕ) → i < k → take k (put on d i v) ≡ put on (take k d) i v
put_take true k d i v h = take-set-lt k d i v h
put_take false k d i v h = refl

put_take_below : (on : Bool) (k : ℕ) (d : List ℕ) (i v : ℕ) → k ≤ i → take k (put on d i v) ≡ take k d
put_take_below true k d i v h = take-set-le k d i v h
put_take_below false k d i v h = refl

put_drop : (on : Bool) (k : ℕ) (d : List ℕ) (i v : ℕ) → drop k (put on d (k + i) v) ≡ put on (drop k d) i v
put_drop true k d i v = drop-set-add k d i v
put_drop false k d i v = refl

put_drop_above : (on : Bool) (k : ℕ) (d : List ℕ) (i v : ℕ) → i < k → drop k (put on d i v) ≡ drop k d
put_drop_above true k d i v h = drop-set-lt k d i v h
put_drop_above false k d i v h = refl

module _ (on : ℕ → Bool) (byte at : ℕ → ℕ) (first : ℕ) where
  -- what lies before the bytes that are moved, and before an index behind them
  move_take_below : (n k : ℕ) (d : List ℕ) → ((t : ℕ) → t < first + n → k ≤ at t)
      → take k (move on byte at first n d) ≡ take k d
  unfolding move
  move_take_below zero k d h = refl
  move_take_below (suc n) k d h =
      put_take_below (on (first + n)) k (move on byte at first n d) (at (first + n)) (byte (first + n))
      (h (first + n) (omega (arith, add-suc first n)))
      ∙ move_take_below n k d (λ t p. h t (omega (arith, add-suc first n)))

  move_take : (n k : ℕ) (d : List ℕ) → ((t : ℕ) → t < first + n → at t < k)
      → take k (move on byte at first n d) ≡ move on byte at first n (take k d)
  unfolding move
  move_take zero k d h = refl
  move_take (suc n) k d h =
      put_take (on (first + n)) k (move on byte at first n d) (at (first + n)) (byte (first + n))
      (h (first + n) (omega (arith, add-suc first n)))
      ∙ rw (move_take n k d (λ t p. h t (omega (arith, add-suc first n))))

  -- what lies behind the bytes that are moved, and from an index before them on
  move_drop_above : (n k : ℕ) (d : List ℕ) → ((t : ℕ) → t < first + n → at t < k)
      → drop k (move on byte at first n d) ≡ drop k d
  unfolding move
  move_drop_above zero k d h = refl
  move_drop_above (suc n) k d h =
      put_drop_above (on (first + n)) k (move on byte at first n d) (at (first + n)) (byte (first + n))
      (h (first + n) (omega (arith, add-suc first n)))
      ∙ move_drop_above n k d (λ t p. h t (omega (arith, add-suc first n)))

  move_drop : (n k : ℕ) (d : List ℕ)
      → drop k (move on byte (λ t. k + at t) first n d) ≡ move on byte at first n (drop k d)
  unfolding move
  move_drop zero k d = refl
  move_drop (suc n) k d =
      put_drop (on (first + n)) k (move on byte (λ t. k + at t) first n d) (at (first + n)) (byte (first + n))
      ∙ rw (move_drop n k d)

-- The part of d from index k up to e is lent to a move of n bytes that stays within it: a move into the part, to index `at` of
-- it, which is put back, is one into d, and a move out of the part is one out of d.
module _ (on : ℕ → Bool) (n k e : ℕ) (d : List ℕ) where
  pub into_part : (byte : ℕ → ℕ) (at : ℕ) {part : List ℕ}
      → part ≡ move on byte (index_from at) 0 n (take (e - k) (drop k d)) → at + n ≤ e - k
      → take k d ++ (part ++ drop (e - k) (drop k d)) ≡ move on byte (λ t. k + (at + t)) 0 n d
  into_part byte at q fits =
      let whole = move on byte (λ t. k + (at + t)) 0 n d in
      let inner : drop k whole ≡ move on byte (index_from at) 0 n (drop k d) = move_drop on byte (index_from at) 0 n k d in
      rw (
        q,
        ← move_take on byte (index_from at) 0 n (e - k) (drop k d) (λ t p. omega arith),
        ← move_drop_above on byte (index_from at) 0 n (e - k) (drop k d) (λ t p. omega arith),
        take-append-drop,
        ← inner,
        ← move_take_below on byte (λ t. k + (at + t)) 0 n k d (λ t p. omega arith),
      )
      (take-append-drop k whole)

  pub out_of_part : (from : ℕ) (at : ℕ → ℕ) (target : List ℕ) {after : List ℕ}
      → after ≡ move on (bytes_from (take (e - k) (drop k d)) from) at 0 n target → from + n ≤ e - k
      → after ≡ move on (λ t. get_or d (k + (from + t)) 0) at 0 n target
  out_of_part from at target q fits =
      q
      ∙ move_source on (bytes_from (front (e - k) k d) from) at 0 (λ t. get_or d (k + (from + t)) 0) n target
      (λ t a b. front_at (e - k) k d (from + t) (omega arith))

-- ---- bytes written over a part

pasted : (byte : ℕ → ℕ) (d s : List ℕ) (at n : ℕ) → at + n ≤ length d → n ≤ length s → ((i : ℕ) → i < n → get_or s i 0 ≡ byte i)
    → paste d at s n ≡ move all byte (index_from at) 0 n d
unfolding move
pasted byte d s at zero p q h = sym (paste_none d at s)
pasted byte d s at (suc n) p q h =
    let e = pasted byte d s at n (omega arith) (omega arith) (λ i l. h i (omega arith)) in
    let more : n + 1 ≡ suc n = omega arith in
    subst (λ (k : ℕ). paste d at s k ≡ move all byte (index_from at) 0 k d) more
    (sym (paste_more d at s n 0 (omega arith) (omega arith))
    ∙ move_put all byte (index_from at) n d (at + n) (get_or s n 0) e refl refl (h n (omega arith)))

-- Of the part of d that is lent, index `at` up to at + n is lent on, and comes back as s: every byte of it is moved into d.
pub part_written : (byte : ℕ → ℕ) (k w at n m : ℕ) (d s : List ℕ) → k + w ≤ length d → at + n ≤ w → m ≡ n
    → length s ≡ length (take m (drop at (take (k + w - k) (drop k d)))) → ((i : ℕ) → i < n → get_or s i 0 ≡ byte i)
    → put_mid k (k + w - k) d (put_mid at m (take (k + w - k) (drop k d)) s) ≡ move all byte (λ t. k + (at + t)) 0 n d
part_written byte k w at n m d s p q r l h =
    let part = take (k + w - k) (drop k d) in
    let long : length part ≡ w = simp (length-take, length-drop) (omega arith) in
    let fits : at + n ≤ length part = omega arith in
    let all_of : length s ≡ n = l ∙ simp (length-take m (drop at part), length-drop at part, long) (omega arith) in
    into_part all n k (k + w) d byte at
    (put_mid-paste at m part s s n refl (sym r) (sym all_of) ∙ pasted byte part s at n fits (omega arith) h)
    (omega arith)

-- the words that are lent of a part that is lent
pub words_at : (k w from n : ℕ) (d : List ℕ) (i : ℕ) → i < n → from + n ≤ w
    → get_or (take (from + n - from) (drop from (take (k + w - k) (drop k d)))) i 0 ≡ get_or d (k + (from + i)) 0
words_at k w from n d i h q =
    front_at (from + n - from) from (take (k + w - k) (drop k d)) i (omega arith)
    ∙ front_at (k + w - k) k d (from + i) (omega arith)

-- ---- a part of the memory that is lent: the bytes moved out of it, and into it

pub lent_length : (at n : ℕ) (d : List ℕ) → at + n ≤ length d → length (take (at + n - at) (drop at d)) ≡ n
lent_length at n d h = simp (length-take, length-drop) (omega arith)

pub lent_source : (on : ℕ → Bool) (at : ℕ → ℕ) (from n : ℕ) (d target : List ℕ) {after : List ℕ}
    → after ≡ move on (λ k. get_or (take (from + n - from) (drop from d)) k 0) at 0 (length (take (from + n - from) (drop from d))) target
    → from + n ≤ length d → after ≡ move on (bytes_from d from) at 0 n target
lent_source on at from n d target q h =
    let words = take (from + n - from) (drop from d) in
    let long = lent_length from n d h in
    q
    ∙ ap (λ (k : ℕ). move on (λ k. get_or words k 0) at 0 k target) long
    ∙ move_source on (λ k. get_or words k 0) at 0 (bytes_from d from) n target
    (λ i a b. front_at (from + n - from) from d i (omega arith))

pub lent_target : (on : ℕ → Bool) (byte : ℕ → ℕ) (at n : ℕ) (d : List ℕ) {after : List ℕ}
    → after ≡ move on byte (index_from 0) 0 (length (take (at + n - at) (drop at d))) (take (at + n - at) (drop at d))
    → at + n ≤ length d → put_mid at (at + n - at) d after ≡ move on byte (index_from at) 0 n d
lent_target on byte at n d q h =
    let words = take (at + n - at) (drop at d) in
    let long = lent_length at n d h in
    into_part on n at (at + n) d byte 0 (q ∙ ap (λ (k : ℕ). move on byte (index_from 0) 0 k words) long) (omega arith)
    ∙ move_same on on byte byte (λ t. at + (0 + t)) (index_from at) 0 0 n d (λ i p. simp zero-add (refl, refl, refl))

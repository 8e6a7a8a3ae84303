-- Moves seen from a range of indices: what they leave alone, and lists that agree there.
-- Assumes nothing.
use mathlib.Core.Path.{◌≡◌, refl, ◌∙◌, sym}
use mathlib.Core.Bool.{Bool, true, false}
use mathlib.Core.List.{List}
use mathlib.Core.Logic.{⊎_elim, ◌⊎◌, ◌≢◌}
use Prim.Native.Nat.{ℕ, zero, suc, ◌+◌, ◌≤◌, ◌<◌}
use native.Mathlib.Nat.{add-suc}
use native.Mathlib.Omega.{arith}
use lib.ListN.{length, get_or, take, drop, length-take, length-drop}
use lib.Seq.{get_or-set_same, get_or-set_other, set_out, get_or-take, get_or-drop, ext_get_or}
use Rattle.common_laws.specs.Lists.{table}
use Rattle.common_laws.proofs.TableLaws.{length_table, get_or_table}
use Rattle.fabric_transfer.specs.Moving.{all, index_from, move}
use Rattle.fabric_transfer.proofs.MoveLaws.{put, length_move, moved_at, equal_or, less_or}

-- the lists agree from index lo up to index hi
pub record Agree (lo hi : ℕ) (d e : List ℕ) : Type 0 where
  pub same : (i : ℕ) → lo ≤ i → i < hi → get_or d i 0 ≡ get_or e i 0

pub agree_refl : (lo hi : ℕ) (d : List ℕ) → Agree lo hi d d
agree_refl lo hi d = record { same = λ i a b. refl }

pub agree_sym : {lo hi : ℕ} {d e : List ℕ} → Agree lo hi d e → Agree lo hi e d
agree_sym h = record { same = λ i a b. sym (h.same i a b) }

pub agree_trans : {lo hi : ℕ} {d e f : List ℕ} → Agree lo hi d e → Agree lo hi e f → Agree lo hi d f
agree_trans h k = record { same = λ i a b. h.same i a b ∙ k.same i a b }

-- two ranges have no index in common
abbrev pub Apart : ℕ → ℕ → ℕ → ℕ → Type 0
Apart lo hi lo' hi' = (hi ≤ lo') ⊎ (hi' ≤ lo)

-- an index lies outside a range
abbrev pub Outside : ℕ → ℕ → ℕ → Type 0
Outside i lo hi = (i < lo) ⊎ (hi ≤ i)

put_outside : (on : Bool) (d : List ℕ) (i v lo hi : ℕ) → (on ≡ true → Outside i lo hi) → Agree lo hi (put on d i v) d
put_outside true d i v lo hi h = record {
  same = λ j p q.
      get_or-set_other d i j v 0 (⊎_elim (λ (r : i < lo). λ e. omega arith) (λ (r : hi ≤ i). λ e. omega arith) (h refl));
}
put_outside false d i v lo hi h = agree_refl lo hi d

put_agree : (on : Bool) (d e : List ℕ) (i v j : ℕ) → length d ≡ length e → get_or d j 0 ≡ get_or e j 0
    → get_or (put on d i v) j 0 ≡ get_or (put on e i v) j 0
put_agree false d e i v j l h = h
put_agree true d e i v j l h =
    ⊎_elim
    (λ (q : j ≡ i).
    ⊎_elim (λ (r : i < length d). rw q (get_or-set_same d i v 0 r ∙ sym (get_or-set_same e i v 0 (omega arith))))
    (λ (r : length d ≤ i). rw (set_out d i v r, set_out e i v (omega arith)) h) (less_or i (length d)))
    (λ (q : j ≢ i). get_or-set_other d i j v 0 q ∙ h ∙ sym (get_or-set_other e i j v 0 q))
    (equal_or j i)

module _ (on : ℕ → Bool) (byte at : ℕ → ℕ) (first : ℕ) where
  -- a move changes nothing in a range that its indices lie outside of
  pub move_apart : (n lo hi : ℕ) (d : List ℕ)
      → ((t : ℕ) → first ≤ t → t < first + n → on t ≡ true → Outside (at t) lo hi)
      → Agree lo hi (move on byte at first n d) d
  unfolding move
  move_apart zero lo hi d h = agree_refl lo hi d
  move_apart (suc n) lo hi d h =
      agree_trans
      (put_outside (on (first + n)) (move on byte at first n d) (at (first + n)) (byte (first + n)) lo hi
      (h (first + n) (omega arith) (omega (arith, add-suc first n))))
      (move_apart n lo hi d (λ t p q. h t p (omega (arith, add-suc first n))))

  same_bytes : (n lo hi : ℕ) {d e : List ℕ} → length d ≡ length e → Agree lo hi d e
      → Agree lo hi (move on byte at first n d) (move on byte at first n e)
  unfolding move
  same_bytes zero lo hi l g = g
  same_bytes (suc n) lo hi {d} {e} l g = record {
    same = λ i p q.
        put_agree (on (first + n)) (move on byte at first n d) (move on byte at first n e) (at (first + n))
        (byte (first + n)) i
        (length_move on byte at first n d ∙ l ∙ sym (length_move on byte at first n e))
        ((same_bytes n lo hi l g).same i p q);
  }

  -- the bytes count only where they are moved
  pub move_source : (byte' : ℕ → ℕ) (n : ℕ) (d : List ℕ) → ((t : ℕ) → first ≤ t → t < first + n → byte t ≡ byte' t)
      → move on byte at first n d ≡ move on byte' at first n d
  unfolding move
  move_source byte' zero d h = refl
  move_source byte' (suc n) d h =
      rw (
        h (first + n) (omega arith) (omega (arith, add-suc first n)),
        move_source byte' n d (λ t p q. h t p (omega (arith, add-suc first n))),
      )

-- moves of the same bytes take lists that agree to lists that agree
pub move_agree : (on : ℕ → Bool) (byte byte' at : ℕ → ℕ) (first n lo hi : ℕ) {d e : List ℕ} → length d ≡ length e
    → Agree lo hi d e → ((t : ℕ) → first ≤ t → t < first + n → byte t ≡ byte' t)
    → Agree lo hi (move on byte at first n d) (move on byte' at first n e)
move_agree on byte byte' at first n lo hi {d} l g h =
    rw (move_source on byte at first byte' n d h) (same_bytes on byte' at first n lo hi l g)

-- ---- n bytes from an index on

abbrev pub front : ℕ → ℕ → List ℕ → List ℕ
front n at d = take n (drop at d)

pub front_at : (n at : ℕ) (d : List ℕ) (i : ℕ) → i < n → get_or (front n at d) i 0 ≡ get_or d (at + i) 0
front_at n at d i h = get_or-take n (drop at d) i 0 h ∙ get_or-drop at d i 0

-- lists of one length agree there
pub front_same : (n at lo hi : ℕ) {d e : List ℕ} → length d ≡ length e → Agree lo hi d e → lo ≤ at → at + n ≤ hi
    → front n at d ≡ front n at e
front_same n at lo hi {d} {e} l g p q =
    ext_get_or 0 (front n at d) (front n at e) (simp (length-take, length-drop, l))
    (λ i h.
    let h' : i < n = omega (arith, simp length-take at h) in
    front_at n at d i h' ∙ g.same (at + i) (omega arith) (omega arith) ∙ sym (front_at n at e i h'))

-- what a move of every byte brings there
pub front_moved : (byte : ℕ → ℕ) (at n : ℕ) (d : List ℕ) → at + n ≤ length d
    → front n at (move all byte (index_from at) 0 n d) ≡ table byte n
front_moved byte at n d p =
    let e = move all byte (index_from at) 0 n d in
    ext_get_or 0 (front n at e) (table byte n)
    (simp (length-take, length-drop, length_move, length_table) (omega arith))
    (λ i h.
    let h' : i < n = omega (arith, simp length-take at h) in
    front_at n at e i h' ∙ moved_at byte at n d p i h' ∙ sym (get_or_table byte n 0 i h'))

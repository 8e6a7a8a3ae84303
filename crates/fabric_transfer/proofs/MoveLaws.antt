-- Laws of `move`: its length, moves one after another, the same move told otherwise, the turns of a loop that moves.
-- Assumes nothing.
use mathlib.Core.Path.{◌≡◌, refl, ap, ◌∙◌, sym}
use mathlib.Core.Bool.{Bool, true, false, cond}
use mathlib.Core.List.{List}
use mathlib.Core.Logic.{⊎_elim, ◌⊎◌, inl, inr, ◌≢◌}
use Prim.Native.Nat.{ℕ, zero, suc, ◌+◌, ◌≤◌, ◌<◌}
use native.Mathlib.Nat.{zero-add, add-zero, add-suc, add_assoc}
use native.Mathlib.Numerals.{add-one}
use native.Mathlib.Omega.{arith}
use lib.ListN.{length, get_or, set, length-set}
use lib.Seq.{get_or-set_same, get_or-set_other}
use Rattle.fabric_transfer.specs.Moving.{all, index_from, move}

-- ---- one byte

-- the byte v put at index i, where it is enabled
abbrev pub put : Bool → List ℕ → ℕ → ℕ → List ℕ
put on d i v = cond on (set d i v) d

length_put : (on : Bool) (d : List ℕ) (i v : ℕ) → length (put on d i v) ≡ length d
length_put true d i v = length-set d i v
length_put false d i v = refl

-- ---- two numbers compared

pub equal_or : (a b : ℕ) → (a ≡ b) ⊎ (a ≢ b)
equal_or zero zero = inl refl
equal_or zero (suc b) = inr (λ e. omega arith)
equal_or (suc a) zero = inr (λ e. omega arith)
equal_or (suc a) (suc b) = ⊎_elim (λ e. inl (ap suc e)) (λ f. inr (λ e. f (omega arith))) (equal_or a b)

pub less_or : (a b : ℕ) → (a < b) ⊎ (b ≤ a)
less_or a zero = inr (omega arith)
less_or zero (suc b) = inl (omega arith)
less_or (suc a) (suc b) = ⊎_elim (λ e. inl (omega arith)) (λ f. inr (omega arith)) (less_or a b)

module _ (on : ℕ → Bool) (byte at : ℕ → ℕ) where
  pub length_move : (first n : ℕ) (d : List ℕ) → length (move on byte at first n d) ≡ length d
  unfolding move
  length_move first zero d = refl
  length_move first (suc n) d = length_put (on (first + n)) (move on byte at first n d) _ _ ∙ length_move first n d

  -- nothing is enabled
  pub move_off : (first n : ℕ) (d : List ℕ) → ((t : ℕ) → first ≤ t → t < first + n → on t ≡ false)
      → move on byte at first n d ≡ d
  unfolding move
  move_off first zero d h = refl
  move_off first (suc n) d h =
      rw (h (first + n) (omega arith) (omega (arith, add-suc first n)))
      (move_off first n d (λ t p q. h t p (omega (arith, add-suc first n))))

  -- a part of the bytes, and then those behind it
  pub move_join : (first n k : ℕ) (d : List ℕ)
      → move on byte at (first + n) k (move on byte at first n d) ≡ move on byte at first (n + k) d
  unfolding move
  move_join first n zero d = rw add-zero
  move_join first n (suc k) d = rw (move_join first n k d, add_assoc first n k, add-suc)

  -- ---- the turns of a loop: `p` is the list as it stands then

  pub move_none : (d : List ℕ) → d ≡ move on byte at 0 0 d
  unfolding move
  move_none d = refl

  move_next : (n : ℕ) (d p : List ℕ) → p ≡ move on byte at 0 n d → put (on n) p (at n) (byte n) ≡ move on byte at 0 (n + 1) d
  unfolding move
  move_next n d p e = rw (e, add-one, zero-add)

  pub move_put : (n : ℕ) (d : List ℕ) {p : List ℕ} (i v : ℕ) → p ≡ move on byte at 0 n d → on n ≡ true → i ≡ at n → v ≡ byte n
      → set p i v ≡ move on byte at 0 (n + 1) d
  move_put n d {p} i v e t f g =
      rw (f, g) (sym (ap (λ (b : Bool). put b p (at n) (byte n)) t) ∙ move_next n d p e)

  pub move_skip : (n : ℕ) (d : List ℕ) {p : List ℕ} → p ≡ move on byte at 0 n d → on n ≡ false
      → p ≡ move on byte at 0 (n + 1) d
  move_skip n d {p} e t = sym (ap (λ (b : Bool). put b p (at n) (byte n)) t) ∙ move_next n d p e

-- byte for byte the same, numbered otherwise
pub move_same : (on on' : ℕ → Bool) (byte byte' at at' : ℕ → ℕ) (first first' n : ℕ) (d : List ℕ)
    → ((k : ℕ) → k < n
    → (on (first + k) ≡ on' (first' + k)) × (byte (first + k) ≡ byte' (first' + k)) × (at (first + k) ≡ at' (first' + k)))
    → move on byte at first n d ≡ move on' byte' at' first' n d
unfolding move
move_same on on' byte byte' at at' first first' zero d h = refl
move_same on on' byte byte' at at' first first' (suc n) d h =
    let e = h n (omega arith) in
    rw (e.0, e.1, e.2, move_same on on' byte byte' at at' first first' n d (λ k l. h k (omega arith)))

-- byte t of n that are moved, every one, to an index and behind it
pub moved_at : (byte : ℕ → ℕ) (at n : ℕ) (d : List ℕ) → at + n ≤ length d → (t : ℕ) → t < n
    → get_or (move all byte (index_from at) 0 n d) (at + t) 0 ≡ byte t
unfolding move
moved_at byte at zero d h t q = absurd (omega arith)
moved_at byte at (suc n) d h t q =
    let before = move all byte (index_from at) 0 n d in
    let fits : at + n < length before = omega (arith, length_move all byte (index_from at) 0 n d) in
    rw zero-add
    (⊎_elim (λ (e : t ≡ n). rw e (get_or-set_same before (at + n) (byte n) 0 fits))
    (λ (f : t ≢ n).
    get_or-set_other before (at + n) (at + t) (byte n) 0 (λ e. f (omega arith))
    ∙ moved_at byte at n d (omega arith) t (omega (arith, f)))
    (equal_or t n))

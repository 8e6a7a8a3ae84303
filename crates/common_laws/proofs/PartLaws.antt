-- A part of a list of numbers: so many from an index on. Parts side by side are one part, and a list is its parts.
-- Assumes nothing.
use mathlib.Core.Path.{◌≡◌, refl, sym, ap, ◌∙◌}
use mathlib.Core.List.{List, [], ◌∷◌, ◌++◌, append_assoc, append-nil}
use Prim.Native.Nat.{ℕ, zero, suc, ◌+◌, ◌*◌, ◌<◌}
use native.Mathlib.Nat.{zero-add, add-zero, mul-zero, mul-suc}
use native.Mathlib.Omega.{arith}
use lib.ListN.{length, get_or}
use Rattle.common_laws.specs.Lists.{gather, table}
use Rattle.common_laws.proofs.FillLaws.{table_is}

-- n numbers of l from index p on
unfoldable pub part : List ℕ → ℕ → ℕ → List ℕ
part l p n = table (λ i. get_or l (p + i) 0) n

module _ (l : List ℕ) where
  pub part_whole : (n : ℕ) → length l ≡ n → l ≡ part l 0 n
  unfolding part
  part_whole n e = table_is (λ i. get_or l (0 + i) 0) n 0 l e (λ k h. rw (zero-add k))

  part_none : (p : ℕ) → part l p 0 ≡ []
  unfolding part table gather
  part_none p = refl

  pub part_one : (p : ℕ) → get_or l p 0 ∷ [] ≡ part l p 1
  unfolding part table gather
  part_one p = rw (add-zero p)

  pub part_join : (p a b : ℕ) → part l p a ++ part l (p + a) b ≡ part l p (a + b)
  unfolding part table gather
  part_join p a zero = rw (append-nil, add-zero a)
  part_join p a (suc b) =
      let n : a + suc b ≡ suc (a + b) = omega arith in
      let k : p + (a + b) ≡ p + a + b = omega arith in
      rw (n, k) (sym (append_assoc (part l p a) (part l (p + a) b) (get_or l (p + a + b) 0 ∷ []))
      ∙ ap (λ (x : List ℕ). x ++ (get_or l (p + a + b) 0 ∷ [])) (part_join p a b))

  pub part_cons : (p n : ℕ) → get_or l p 0 ∷ part l (p + 1) n ≡ part l p (1 + n)
  part_cons p n = ap (λ (x : List ℕ). x ++ part l (p + 1) n) (part_one p) ∙ part_join p 1 n

  -- records of w numbers each, one after another from index p on
  pub part_gather : (p w : ℕ) (f : ℕ → List ℕ) (n : ℕ) → ((i : ℕ) → i < n → f i ≡ part l (p + w * i) w)
      → gather f n ≡ part l p (w * n)
  unfolding gather
  part_gather p w f zero h = rw (mul-zero w) (sym (part_none p))
  part_gather p w f (suc n) h =
      rw (mul-suc w n, part_gather p w f n (λ i g. h i (omega arith)), h n (omega arith)) (part_join p (w * n) w)

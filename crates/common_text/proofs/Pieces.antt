-- How the pieces of a text go on from a position in it: the laws of `split`, `behind` and `Cut`.
-- Assumes nothing.
use mathlib.Core.Bool.{Bool, true, false, cond}
use mathlib.Core.List.{List, [], ◌∷◌, ◌++◌, append_assoc, append-nil}
use mathlib.Core.Path.{◌≡◌, refl, ap, sym, ◌∙◌}
use Prim.Native.Nat.{ℕ, suc, ◌+◌, ◌-◌, ◌≤◌, ◌<◌}
use native.Mathlib.Nat.{le_of_eq, add_assoc}
use native.Mathlib.Numerals.{add-one}
use lib.Dec.{eqb}
use lib.ListN.{length, get_or, take, drop, drop_of_length-le}
use lib.Seq.{drop-cons, take-suc, drop-drop}
use borrow.Author.Tests.{lt-ltb, le-ltb, eq-eqb, ne_eqb}
use Rattle.common_laws.proofs.TextLists.{part_rest}
use Rattle.common_text.specs.Fields.{split, push}
use Rattle.common_text.specs.Code.Scanning.{behind, Cut}

-- the bytes xs in front of the first piece
abbrev pub prepend : List ℕ → List (List ℕ) → List (List ℕ)
prepend xs [] = xs ∷ []
prepend xs (p ∷ ps) = (xs ++ p) ∷ ps

push_prepend : (xs : List ℕ) (c : ℕ) (ps : List (List ℕ)) → prepend xs (push c ps) ≡ prepend (xs ++ (c ∷ [])) ps
unfolding push
push_prepend xs c [] = refl
push_prepend xs c (p ∷ ps) = ap (λ (l : List ℕ). l ∷ ps) (sym (append_assoc xs (c ∷ []) p))

pub prepend_nil : (b : ℕ) (s : List ℕ) → split b s ≡ prepend [] (split b s)
unfolding split push
prepend_nil b [] = refl
prepend_nil b (c ∷ cs) = go (eqb c b) (split b cs)
  where
    go : (t : Bool) (ps : List (List ℕ)) → cond t ([] ∷ ps) (push c ps) ≡ prepend [] (cond t ([] ∷ ps) (push c ps))
    go true ps = refl
    go false [] = refl
    go false (p ∷ ps) = refl

-- the pieces behind a position
pub behind_more : (b : ℕ) (s : List ℕ) (i : ℕ) → i < length s → behind b s i ≡ split b (drop (i + 1) s)
unfolding behind
behind_more b s i h = simp (lt-ltb i (length s) h)

pub behind_last : (b : ℕ) (s : List ℕ) (i : ℕ) → length s ≤ i → behind b s i ≡ []
unfolding behind
behind_last b s i h = simp (le-ltb i (length s) h)

-- the same, of the part behind the separator as it is lent
pub behind_part :
    (b : ℕ) (s : List ℕ) (i : ℕ) → i < length s
    → behind b s i ≡ split b (take (length s - (i + 1)) (drop (i + 1) s))
behind_part b s i h = behind_more b s i h ∙ ap (split b) (sym (part_rest s (i + 1)))

-- a search for b that has passed the bytes below i
module _ (b : ℕ) (s : List ℕ) (i : ℕ) where
  pub split_pass :
      i < length s → (get_or s i 0 ≡ b → ⊥) → split b s ≡ prepend (take i s) (split b (drop i s))
      → split b s ≡ prepend (take (i + 1) s) (split b (drop (i + 1) s))
  unfolding split
  split_pass h ne e =
      let e2 : split b (drop i s) ≡ push (get_or s i 0) (split b (drop (suc i) s)) = rw (drop-cons s i 0, ne_eqb _ _ ne) in
      rw (add-one, take-suc s i 0)
      (e ∙ ap (prepend (take i s)) e2 ∙ push_prepend (take i s) (get_or s i 0) (split b (drop (suc i) s)))

  pub split_found :
      i < length s → get_or s i 0 ≡ b → split b s ≡ prepend (take i s) (split b (drop i s))
      → split b s ≡ take i s ∷ behind b s i
  unfolding split
  split_found h eq e =
      let e2 : split b (drop i s) ≡ [] ∷ split b (drop (suc i) s) = rw (drop-cons s i 0, eq-eqb _ _ eq) in
      rw (behind_more b s i, add-one)
      (e ∙ ap (prepend (take i s)) e2 ∙ ap (λ (l : List ℕ). l ∷ split b (drop (suc i) s)) (append-nil (take i s)))

  pub split_none :
      length s ≤ i → split b s ≡ prepend (take i s) (split b (drop i s))
      → split b s ≡ take i s ∷ behind b s i
  unfolding split
  split_none h e =
      let e2 : split b (drop i s) ≡ [] ∷ [] = rw (drop_of_length-le s h) in
      rw (behind_last b s i)
      (e ∙ ap (prepend (take i s)) e2 ∙ ap (λ (l : List ℕ). l ∷ []) (append-nil (take i s)))

-- A cut of the rest of s from `at` on, as it is lent: the pieces of that rest.
module _ (b : ℕ) (s : List ℕ) (at e : ℕ) where
  pub cut_rest :
      Cut b (take (length s - at) (drop at s)) e
      → split b (drop at s) ≡ take e (take (length s - at) (drop at s)) ∷ behind b (take (length s - at) (drop at s)) e
  cut_rest k = ap (split b) (sym (part_rest s at)) ∙ k.pieces

  pub rest_more :
      e < length (take (length s - at) (drop at s))
      → behind b (take (length s - at) (drop at s)) e ≡ split b (drop (at + e + 1) s)
  rest_more h = behind_more b (take (length s - at) (drop at s)) e h ∙ simp (part_rest, drop-drop, add_assoc)

  pub rest_last :
      e ≡ length (take (length s - at) (drop at s)) → behind b (take (length s - at) (drop at s)) e ≡ []
  rest_last h = behind_last b (take (length s - at) (drop at s)) e (le_of_eq (sym h))

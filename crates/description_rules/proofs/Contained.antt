-- The library's test of membership is the definition's.
-- Assumes nothing.
use Rattle.std.proofs.Common.{◌≡◌, ℕ, ◌||◌, Bool, true, false, cond, List, [], ◌∷◌, eqb, refl, ap, ◌∙◌}
use Rattle.std.specs.List.{list_any}
use Rattle.common_laws.specs.Lists.{member}

either : (a b : Bool) → (a || b) ≡ cond a true b
either true b = refl
either false b = refl

contained : (x : ℕ) (xs : List ℕ) → list_any (λ y. eqb y x) xs ≡ member x xs
unfolding member
contained x [] = refl
contained x (y ∷ ys) = either (eqb y x) (list_any (λ z. eqb z x) ys) ∙ ap (λ b. cond (eqb y x) true b) (contained x ys)

-- what the library answers
pub listed : (x : ℕ) (xs : List ℕ) {r : Bool} → r ≡ list_any (λ y. eqb y x) xs → r ≡ member x xs
listed x xs e = e ∙ contained x xs

-- Lists, sums and tests over the numbers below n.
-- Assumes nothing.
use Rattle.std.specs.Prelude.{Bool, true, false, cond, ◌&&◌, ◌||◌, List, [], ◌∷◌, ◌++◌, ℕ, zero, suc, ◌+◌, eqb}

-- x is in the list
unfoldable pub member : ℕ → List ℕ → Bool
member x [] = false
member x (y ∷ ys) = cond (eqb y x) true (member x ys)

-- both lists hold the same numbers
unfoldable pub same : List ℕ → List ℕ → Bool
same [] [] = true
same [] (y ∷ ys) = false
same (x ∷ xs) [] = false
same (x ∷ xs) (y ∷ ys) = cond (eqb x y) (same xs ys) false

-- two tests have one answer
abbrev pub agree : Bool → Bool → Bool
agree true b = b
agree false true = false
agree false false = true

-- the lists f 0, f 1, .. f (n − 1), one after another
unfoldable pub gather : {X : Type 0} → (ℕ → List X) → ℕ → List X
gather f zero = []
gather f (suc n) = gather f n ++ f n

-- f 0, f 1, .. f (n − 1)
unfoldable pub table : {X : Type 0} → (ℕ → X) → ℕ → List X
table f n = gather (λ i. f i ∷ []) n

-- the numbers below n that pass the test, in rising order
unfoldable pub filtered : (ℕ → Bool) → ℕ → List ℕ
filtered test n = gather (λ i. cond (test i) (i ∷ []) []) n

-- f 0 + f 1 + .. + f (n − 1)
unfoldable pub sum : (ℕ → ℕ) → ℕ → ℕ
sum f zero = 0
sum f (suc n) = sum f n + f n

-- every number below n passes the test
unfoldable pub every : (ℕ → Bool) → ℕ → Bool
every test zero = true
every test (suc n) = every test n && test n

-- some number below n passes the test
unfoldable pub some : (ℕ → Bool) → ℕ → Bool
some test zero = false
some test (suc n) = some test n || test n

-- the first of the k numbers from i on that passes the test, or i + k
unfoldable pub first_from : (ℕ → Bool) → ℕ → ℕ → ℕ
first_from test i zero = i
first_from test i (suc k) = cond (test i) i (first_from test (i + 1) k)

-- the first number below n that passes the test, or n
unfoldable pub first : (ℕ → Bool) → ℕ → ℕ
first test n = first_from test 0 n

-- The three numbers of an entry that a take answers (rules 2.4, 4.19), as they are put into what C lends.
-- Assumes nothing.
use mathlib.Core.Path.{◌≡◌, ◌∙◌}
use mathlib.Core.Bool.{Bool}
use mathlib.Core.List.{List}
use Prim.Native.Nat.{ℕ, ◌≤◌}
use native.Mathlib.Omega.{arith}
use lib.ListN.{length, get_or, set, length-set}
use lib.Seq.{get_or-set_same, get_or-set_other}
use Rattle.description_layout.specs.Layout.{marked, mark_of}
use Rattle.description_layout.proofs.NumbersLaws.{mark_back}
use Rattle.fabric_layout.proofs.MarkLaws.{mark_small}
use Rattle.fabric_calls.specs.Calls.{Take}

module _ (l : List ℕ) (three : length l ≡ 3) (m a k : ℕ) where
  abbrev put : List ℕ
  put = set (set (set l 0 m) 1 a) 2 k

  second : length (set l 0 m) ≡ 3
  second = length-set l 0 m ∙ three

  third : length (set (set l 0 m) 1 a) ≡ 3
  third = length-set (set l 0 m) 1 a ∙ second

  put_master : get_or put 0 0 ≡ m
  put_master =
      get_or-set_other (set (set l 0 m) 1 a) 2 0 k 0 (λ z. omega (arith, z)) ∙ get_or-set_other (set l 0 m) 1 0 a 0 (λ z. omega (arith, z))
      ∙ get_or-set_same l 0 m 0 (omega (arith, three))

  put_address : get_or put 1 0 ≡ a
  put_address =
      get_or-set_other (set (set l 0 m) 1 a) 2 1 k 0 (λ z. omega (arith, z)) ∙ get_or-set_same (set l 0 m) 1 a 0 (omega (arith, second))

  put_write : get_or put 2 0 ≡ k
  put_write = get_or-set_same (set (set l 0 m) 1 a) 2 k 0 (omega (arith, third))

-- so they are the answer's
module _ (l : List ℕ) (three : length l ≡ 3) (n m a : ℕ) (w : Bool) {k : ℕ} (e : k ≡ mark_of w) where
  pub entry_taken : let r = set (set (set l 0 m) 1 a) 2 k in
      ◌≡◌ {A = Take} (record { number = n; master = get_or r 0 0; address = get_or r 1 0; write = marked (get_or r 2 0) })
      (record { number = n; master = m; address = a; write = w })
  entry_taken = rw (put_master l three m a k, put_address l three m a k, put_write l three m a k, mark_back w e)

  pub entry_small : get_or (set (set (set l 0 m) 1 a) 2 k) 2 0 ≤ 1
  entry_small = rw (put_write l three m a k, e) (mark_small w)

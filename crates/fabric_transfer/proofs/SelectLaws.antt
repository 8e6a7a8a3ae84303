-- Which slave an address selects: on an accepted board at most one.
-- Assumes nothing.
use mathlib.Core.Path.{◌≡◌, refl}
use mathlib.Core.Bool.{Bool, true, false, true≢false}
use Prim.Native.Nat.{ℕ, ◌+◌, ◌≤◌, ◌<◌}
use native.Mathlib.Omega.{arith}
use lib.Dec.{ltb}
use borrow.Author.Tests.{lt-ltb, ltb-true, ltb-false}
use Rattle.common_laws.proofs.Tests.{both}
use Rattle.common_laws.proofs.TableLaws.{First, first_is, first_only}
use Rattle.description_board.specs.Records.{Slave}
use Rattle.description_board.specs.declared.Board.{Board}
use Rattle.description_board.specs.Records.{slave_at, shares_at, connected}
use Rattle.description_board.specs.Rules.{meets}
use Rattle.description_board.specs.Legal.{LegalSlave, Legal}
use Rattle.fabric_transfer.specs.Decoding.{agrees, selects, target_of}
use Rattle.fabric_transfer.proofs.DecodeLaws.{agrees_within, within_agrees, span_of}

-- the address lies in the slave's span
pub record Inside (sl : Slave) (address : ℕ) : Type 0 where
  pub low : sl.base ≤ address
  pub high : address < sl.base + sl.span

module _ (sl : Slave) (address : ℕ) (legal : LegalSlave sl) where
  pub agrees_inside : agrees sl address ≡ true → Inside sl address
  agrees_inside e =
      let p = agrees_within sl address (span_of sl.span legal.span) legal.aligned e in
      record { low = p.0; high = p.1 }

  pub inside_agrees : Inside sl address → agrees sl address ≡ true
  inside_agrees i = within_agrees sl address (span_of sl.span legal.span) legal.aligned i.low i.high

-- master m is connected to slave s, and the address is one of that slave
pub record Selected (b : Board) (m address s : ℕ) : Type 0 where
  pub within : s < b.slave_count
  pub shares : 0 < shares_at b m s
  pub inside : Inside (slave_at b s) address

pub target_first : (b : Board) (m address : ℕ)
    → First (selects b m address) b.slave_count (target_of b m address)
unfolding target_of
target_first b m address = first_is (selects b m address) b.slave_count

module _ (b : Board) (legal : Legal b) where
  -- no address lies in two spans
  inside_below : (address s k : ℕ) → s < k → k < b.slave_count → Inside (slave_at b s) address
      → Inside (slave_at b k) address → ⊥
  unfolding meets
  inside_below address s k h hk i j =
      let low = lt-ltb (slave_at b k).base ((slave_at b s).base + (slave_at b s).span) (omega arith) in
      let high = lt-ltb (slave_at b s).base ((slave_at b k).base + (slave_at b k).span) (omega arith) in
      true≢false (rw (low, high) at (legal.apart s k h hk))

  pub inside_one : (address s k : ℕ) → s < b.slave_count → k < b.slave_count → Inside (slave_at b s) address
      → Inside (slave_at b k) address → s ≡ k
  inside_one address s k hs hk i j = go (ltb s k) refl (ltb k s) refl
    where
      go : (c : Bool) → ltb s k ≡ c → (d : Bool) → ltb k s ≡ d → s ≡ k
      go true e d f = absurd (inside_below address s k (ltb-true s k e) hk i j)
      go false e true f = absurd (inside_below address k s (ltb-true k s f) hs j i)
      go false e false f = omega (arith, ltb-false s k e, ltb-false k s f)

  pub selects_facts : (m address s : ℕ) → selects b m address s ≡ true → Selected b m address s
  unfolding selects connected
  selects_facts m address s e =
      let p = both (connected b m s) (agrees (slave_at b s) address) e in
      let q = both (ltb s b.slave_count) (ltb 0 (shares_at b m s)) p.0 in
      let within = ltb-true s b.slave_count q.0 in
      record {
        within = within;
        shares = ltb-true 0 (shares_at b m s) q.1;
        inside = agrees_inside (slave_at b s) address (legal.slave s within) p.1;
      }

  pub selects_of : (m address s : ℕ) → Selected b m address s → selects b m address s ≡ true
  unfolding selects connected
  selects_of m address s f =
      rw (lt-ltb s b.slave_count f.within, lt-ltb 0 (shares_at b m s) f.shares)
      (inside_agrees (slave_at b s) address (legal.slave s f.within) f.inside)

  -- so an address selects at most one slave, for whichever masters
  pub selects_one : (m i address s k : ℕ) → selects b m address s ≡ true → selects b i address k ≡ true → s ≡ k
  selects_one m i address s k e f =
      let x = selects_facts m address s e in
      let y = selects_facts i address k f in
      inside_one address s k x.within y.within x.inside y.inside

  pub selects_target : (m address s : ℕ) → selects b m address s ≡ true → target_of b m address ≡ s
  unfolding target_of
  selects_target m address s e =
      first_only (selects b m address) b.slave_count s (selects_facts m address s e).within e
      (λ k h f. selects_one m m address k s f e)

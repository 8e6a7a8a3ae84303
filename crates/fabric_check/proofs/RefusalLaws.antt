-- What a transfer is refused for, by the parts that the code has, is the definition's.
-- Assumes nothing.
use mathlib.Core.Path.{◌≡◌, refl, ◌∙◌}
use mathlib.Core.Bool.{Bool, true, false, cond}
use mathlib.Core.List.{List}
use Prim.Native.Nat.{ℕ, ◌*◌, ◌%◌, ◌≤◌, ◌<◌}
use native.Mathlib.Nat.{mod-eq_of_lt}
use native.Mathlib.Omega.{arith}
use lib.Dec.{eqb}
use lib.ListN.{get_or}
use borrow.Author.Tests.{eqb-false}
use Rattle.common_laws.specs.Lists.{member}
use Rattle.common_laws.proofs.Arithmetic.{product_le}
use Rattle.description_board.specs.declared.Master.{Master}
use Rattle.description_board.specs.Records.{Slave}
use Rattle.description_board.specs.declared.Board.{Board}
use Rattle.description_board.specs.Records.{no_slave, master_at, slave_at}
use Rattle.description_board.specs.Rules.{widths}
use Rattle.description_board.specs.Items.{board_refusal}
use Rattle.description_board.proofs.Accepted.{accepted_legal}
use Rattle.fabric_transfer.specs.declared.Transfer.{Transfer}
use Rattle.fabric_transfer.specs.Accesses.{latency_of}
use Rattle.fabric_transfer.specs.Decoding.{target_of}
use Rattle.fabric_state.specs.Posting.{unmapped, is_unmapped, transfer_refusal_by, transfer_refusal}
use Rattle.fabric_state.specs.Soundness.{latency_at}
use Rattle.fabric_check.specs.Code.Checks.{latency_by}
use Rattle.fabric_transfer.proofs.SelectLaws.{target_first}
use Rattle.fabric_transfer.proofs.AccessLaws.{width_le}

-- the bytes of a transfer, whatever its beats, fit 64 bits with room for an address
pub bytes_most : (beats width : ℕ) → beats ≤ 4294967295 → member width widths ≡ true → beats * width ≤ 34359738360
bytes_most beats width h e = product_le beats width 4294967295 8 h (width_le width e)

-- a transfer for no slave is not refused for its slave: 16 stands before 17
refusal_slave : (ma : Master) (slaves : List Slave) (t : Transfer) (target count : ℕ) (default : Bool) → target ≤ count → count ≤ 16
    → transfer_refusal_by ma (get_or slaves (target % 16) no_slave) t target count default
    ≡ transfer_refusal_by ma (get_or slaves target no_slave) t target count default
unfolding transfer_refusal_by unmapped
refusal_slave ma slaves t target count default h l = go (eqb target count) refl
  where
    go : (c : Bool) → eqb target count ≡ c
        → transfer_refusal_by ma (get_or slaves (target % 16) no_slave) t target count default
        ≡ transfer_refusal_by ma (get_or slaves target no_slave) t target count default
    go true e = rw e
    go false e =
        let none = eqb-false target count e in
        let small : target < 16 = omega arith in
        rw (mod-eq_of_lt small)

-- the code has read the master, the slave at the target's remainder by 16, the count of slaves and the mark of the line `default`
pub refusal_parts : (b : Board) → board_refusal b ≡ 0 → (m : ℕ) (t : Transfer) (target : ℕ) {ma : Master} {sl : Slave} {count : ℕ}
    {default : Bool} → target ≡ target_of b m t.address → ma ≡ master_at b m → sl ≡ slave_at b (target % 16)
    → count ≡ b.slave_count → default ≡ b.default_line → transfer_refusal_by ma sl t target count default ≡ transfer_refusal b m t
unfolding transfer_refusal
refusal_parts b ok m t target e f g h d =
    rw (f, g, h, d)
    (refusal_slave (master_at b m) b.slaves t target b.slave_count b.default_line
    (rw e (target_first b m t.address).within) (accepted_legal b ok).few_slaves
    ∙ same target e)
  where
    same : (x : ℕ) → x ≡ target_of b m t.address
        → transfer_refusal_by (master_at b m) (slave_at b x) t x b.slave_count b.default_line ≡ transfer_refusal b m t
    same x q = rw q

-- the latency of a transfer, at the slave that the code has read
pub latency_parts : (b : Board) → board_refusal b ≡ 0 → (m : ℕ) (t : Transfer) (target : ℕ) {sl : Slave} {count : ℕ}
    → target ≡ target_of b m t.address → sl ≡ slave_at b (target % 16) → count ≡ b.slave_count
    → latency_by sl t target count ≡ latency_at b m t
unfolding latency_by latency_at is_unmapped unmapped
latency_parts b ok m t target {sl} {count} e g h = rw (h, ← e) (go (eqb target b.slave_count) refl)
  where
    go : (c : Bool) → eqb target b.slave_count ≡ c → cond c 0 (latency_of sl t) ≡ cond c 0 (latency_of (slave_at b target) t)
    go true q = refl
    go false q =
        let none = eqb-false target b.slave_count q in
        let within : target ≤ b.slave_count = rw e (target_first b m t.address).within in
        let small : target < 16 = omega (arith, (accepted_legal b ok).few_slaves) in
        rw (g, mod-eq_of_lt small)

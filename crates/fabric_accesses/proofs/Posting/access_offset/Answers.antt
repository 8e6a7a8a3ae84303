-- `fabric_accesses::Posting::access_offset` meets its contract: a product of two numbers of 32 bits leaves room for one more.
-- Assumes nothing.
use mathlib.Core.Path.{◌≡◌, sym, ap, ap₂, ◌∙◌}
use Prim.Native.Nat.{ℕ, ◌+◌, ◌-◌, ◌*◌, ◌/◌, ◌≤◌}
use native.Mathlib.Omega.{arith}
use Rattle.common_laws.proofs.Arithmetic.{product_le}
use Rattle.fabric_transfer.specs.Alignment.{access_bytes}
use Rattle.fabric_transfer.specs.Accesses.{first_byte}
use Rattle.fabric_transfer.proofs.AlignmentLaws.{access_master, native_offset, sized_offset}
use Rattle.fabric_transfer.proofs.AccessLaws.{width_le}
use Rattle.fabric_accesses.proofs.Posting.access_offset.Goals as goal

pub overflow_mul-result : goal.overflow_mul-result
overflow_mul-result c =
    let few : c.from-then-is_native-2.result ≤ 8 =
    omega (arith, c.from-then-is_native-2.ensures, width_le c.args.self.pair.slave.width c.requires.slave) in
    let words = c.from.result + c.from-then-is_native.result in
    let most : words ≤ 4294967295 + 4294967295 = omega (arith, c.from.ensures, c.from-then-is_native.ensures) in
    omega (arith, product_le words c.from-then-is_native-2.result (4294967295 + 4294967295) 8 most few)

pub returns-then-is_native : goal.returns-then-is_native
returns-then-is_native c =
    let ma = c.args.self.pair.master in
    let word : c.from.result ≡ (c.args.self.transfer.address - c.args.self.pair.slave.base) / ma.width =
    c.from.ensures ∙ c.quotient-word.ensures ∙ ap (λ (x : ℕ). x / ma.width) c.saturating_sub-start.ensures in
    ap₂ (λ (x y : ℕ). x * y) (ap₂ (λ (x y : ℕ). x + y) word c.from-then-is_native.ensures) c.from-then-is_native-2.ensures
    ∙ sym
    (native_offset _ _ c.requires.master c.requires.slave _ _ (sym c.is_native.ensures ∙ c.if-is_native.true))

pub overflow_add-result-2 : goal.overflow_add-result-2
unfolding first_byte
overflow_add-result-2 c =
    let args = c.args in
    let bytes = access_bytes args.self.pair.master args.self.pair.slave in
    let few : bytes ≤ 4294967295 = omega (arith, access_master args.self.pair.master args.self.pair.slave) in
    let most : args.a * bytes ≤ 4294967295 * 4294967295 = product_le args.a bytes 4294967295 4294967295 (omega arith) few in
    omega (arith, c.from-2.ensures, c.saturating_sub-start.ensures, c.first_byte.ensures)

pub returns : goal.returns
returns c =
    ap₂ (λ (x y : ℕ). x + y) (c.from-2.ensures ∙ c.saturating_sub-start.ensures) c.first_byte.ensures
    ∙ sym
    (sized_offset _ _ c.requires.master c.requires.slave _ _ (sym c.is_native.ensures ∙ c.if-is_native.false))

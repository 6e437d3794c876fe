-- Sums of signed numbers.
use Rattle.voucher_core.proofs.Words.{◌≡◌, ℕ, ◌*◌, ◌≤◌, ℤ, pos, negsuc, ◌+ℤ◌, neg_ℤ, ◌≤ℤ◌, to_z, of_z, w64, arith, ints, to_z-of_z}
pub use Rattle.list_laws.proofs.Ranges.{range-more}

-- a sum that stays within its bounds
pub summed : (s r p a q : ℤ) (n : ℕ) → s ≡ p → r ≡ a → q ≡ p +ℤ a → n ≤ 4000000 → neg_ℤ (pos (2147483648 * n)) ≤ℤ s → s ≤ℤ pos (2147483648 * n) →
    negsuc 2147483647 ≤ℤ r → r ≤ℤ pos 2147483647 → to_z w64 (of_z w64 (s +ℤ to_z w64 (of_z w64 r))) ≡ q
summed s r p a q n e f g few low high least most = grind (arith, ints, to_z-of_z)

-- Products of words. Assumes nothing.
use Rattle.std.proofs.Common.{◌≡◌, ℕ, ◌+◌, ◌*◌, ◌/◌, ◌%◌, sym, ap, ◌∙◌, ap₂, add_assoc, mul_assoc, mul_comm, add-mul, add_comm, div-add-mod', mul-add, mul_left_comm}
use native.Mathlib.Nat.{add_left_comm, mul-add-mod_self_right}

ruleset sums = (mul-add, add-mul, mul_assoc, mul_comm, mul_left_comm, add_assoc, add_comm, add_left_comm)

-- the product of two numbers of two digits in base P, its upper digits apart
digit_products : (P a₁ a₀ b₁ b₀ : ℕ) → (a₁ * P + a₀) * (b₁ * P + b₀) ≡ a₁ * b₁ * (P * P) + ((a₁ * b₀ + a₀ * b₁) * P + a₀ * b₀)
digit_products P a₁ a₀ b₁ b₀ = simp sums

carried : (P q r z : ℕ) → (q * P + r) * P + z ≡ q * (P * P) + (z + r * P)
carried P q r z = simp sums

-- modulo P * P the product of the upper digits is nothing, and of the cross products their low digit counts
pub product_mod : (P a b : ℕ) → (a % P * (b % P) + (a / P * (b % P) + a % P * (b / P)) % P * P) % (P * P) ≡ a * b % (P * P)
product_mod P a b =
    let x = a / P * (b % P) + a % P * (b / P) in
    let z = a % P * (b % P) in
    sym
    (ap₂ (λ (u v : ℕ). u * v % (P * P)) (sym (div-add-mod' a P)) (sym (div-add-mod' b P))
    ∙ ap (λ (u : ℕ). u % (P * P)) (digit_products P (a / P) (a % P) (b / P) (b % P))
    ∙ mul-add-mod_self_right (a / P * (b / P)) (P * P) (x * P + z)
    ∙ ap (λ (u : ℕ). (u * P + z) % (P * P)) (sym (div-add-mod' x P))
    ∙ ap (λ (u : ℕ). u % (P * P)) (carried P (x / P) (x % P) z)
    ∙ mul-add-mod_self_right (x / P) (P * P) (z + x % P * P))

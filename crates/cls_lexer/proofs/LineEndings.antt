-- A line without the carriage return at its end.
use Rattle.std.proofs.Common.{◌≡◌, ℕ, ◌+◌, List, [], ◌∷◌, length, get_or, take, ap, arith, suc, zero}
use Rattle.cls_lexer.specs.Lines.{without_return}

-- a carriage return at the end goes
pub without_return-take : (l : List ℕ) (n : ℕ) → n + 1 ≡ length l → get_or l n 0 ≡ 13 → without_return l ≡ take n l
without_return-take [] n h r = absurd (omega arith)
without_return-take (b ∷ []) zero h r = grind arith
without_return-take (b ∷ []) (suc n) h r = absurd (omega arith)
without_return-take (b ∷ c ∷ bs) zero h r = absurd (omega arith)
without_return-take (b ∷ c ∷ bs) (suc n) h r = ap (λ l. b ∷ l) (without_return-take (c ∷ bs) n (omega arith) r)

-- another byte stays
pub without_return-same : (l : List ℕ) (n : ℕ) → n + 1 ≡ length l → (get_or l n 0 ≡ 13 → ⊥) → without_return l ≡ l
without_return-same [] n h r = absurd (omega arith)
without_return-same (b ∷ []) zero h r = grind arith
without_return-same (b ∷ []) (suc n) h r = absurd (omega arith)
without_return-same (b ∷ c ∷ bs) zero h r = absurd (omega arith)
without_return-same (b ∷ c ∷ bs) (suc n) h r = ap (λ l. b ∷ l) (without_return-same (c ∷ bs) n (omega arith) r)

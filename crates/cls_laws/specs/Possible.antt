-- What isn't impossible. Where existence is said in this way, no way of finding it is named.
abbrev pub IsPossible : Type 0 → Type 0
IsPossible A = (A → ⊥) → ⊥

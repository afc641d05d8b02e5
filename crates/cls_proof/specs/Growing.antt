-- Members that grow at their end: the last member, its last block, and the last layer of that.
use Rattle.std.specs.Prelude.{ℕ, ◌<◌, List, [], ◌∷◌, ◌++◌, length}
use Rattle.cls_base.specs.Types.{ClosedType}
use Rattle.cls_proof.specs.Certificates.{Block, Member}

-- the list with its last element changed, if it has one
abbrev pub on_last : {A : Type 0} → (A → A) → List A → List A
on_last f [] = []
on_last f (x ∷ []) = f x ∷ []
on_last f (x ∷ y ∷ xs) = x ∷ on_last f (y ∷ xs)

-- the set stands last in the last layer
abbrev pub with_set : List ℕ → List (List (List ℕ)) → List (List (List ℕ))
with_set s layers = on_last (λ sets. sets ++ s ∷ []) layers

abbrev pub new_block : (component n : ℕ) → Block
new_block component n = record { component = component; n = n; layers = [] }

abbrev pub new_member : ClosedType → Member
new_member goal = record { goal = goal; blocks = [] }

-- the layers of the last block are changed
abbrev pub in_last_block : (List (List (List ℕ)) → List (List (List ℕ))) → List Block → List Block
in_last_block f blocks = on_last (λ b. record { component = b.component; n = b.n; layers = f b.layers }) blocks

-- the blocks of the last member are changed
abbrev pub in_last_member : (List Block → List Block) → List Member → List Member
in_last_member f members = on_last (λ m. record { goal = m.goal; blocks = f m.blocks }) members

-- what the last element of a list holds, or nothing
abbrev pub in_last : {A B : Type 0} → (A → List B) → List A → List B
in_last f [] = []
in_last f (x ∷ []) = f x
in_last f (x ∷ y ∷ xs) = in_last f (y ∷ xs)

abbrev pub last_layers : List Block → List (List (List ℕ))
last_layers blocks = in_last (λ b. b.layers) blocks

abbrev pub last_blocks : List Member → List Block
last_blocks members = in_last (λ m. m.blocks) members

-- the last block has a layer
abbrev pub HasLayers : List Block → Type 0
HasLayers blocks = 0 < length (last_layers blocks)

-- the last member has a block
abbrev pub HasBlock : List Member → Type 0
HasBlock members = 0 < length (last_blocks members)

-- the last block of the last member has a layer
abbrev pub HasLayer : List Member → Type 0
HasLayer members = HasLayers (last_blocks members)

-- internal: what a text is looked up by. A short one is a number, and a long one is itself.
use Rattle.std.specs.Prelude.{ℕ, Bool, false, ◌≡◌, ◌<◌, ◌≤◌, ◌==◌, ◌+◌, ◌*◌, List, [], ◌∷◌, String, length, string_bytes}
use Rattle.std.specs.Hash as fed
use Rattle.std.specs.List.{AllZip}
use Rattle.std.specs.Int.Digits.{AllBelowBase}
use Rattle.cls_lexer.specs.declared.text_key.TextKey.{TextKey}
use Rattle.cls_lexer.specs.declared.text_key.TextKey.TheVariants.{Short, Long}

-- The number whose digits in base 256, the lowest first, are the bytes and then the last one.
abbrev pub number_with : (last : ℕ) → List ℕ → ℕ
number_with last [] = last
number_with last (byte ∷ bytes) = number_with last bytes * 256 + byte

-- The number whose digits in base 256, the lowest first, are the bytes and then a 1.
abbrev pub text_number : List ℕ → ℕ
text_number bytes = number_with 1 bytes

-- What a key writes into a hasher: the number or the text, and not which of both it is.
abbrev pub key_writes : {T : Type 0} → (T → fed.HashWrites) → TextKey T → fed.HashWrites
key_writes feed (Short number) = fed.u128 number
key_writes feed (Long text) = feed text

-- The key is the text's. A short text's bytes are bytes, so that its number tells it.
abbrev pub IsKeyOf : {T : Type 0} → (T → List ℕ) → TextKey T → List ℕ → Type 0
IsKeyOf bytes (Short number) text = (length text < 16) × AllBelowBase 256 text × (number ≡ text_number text)
IsKeyOf bytes (Long own) text = (16 ≤ length text) × (bytes own ≡ text)

-- Two keys are of the same kind, and their numbers or their texts are equal.
abbrev pub keys_equal : {T U : Type 0} → (T → U → Bool) → TextKey T → TextKey U → Bool
keys_equal equal (Short a) (Short b) = a == b
keys_equal equal (Short a) (Long y) = false
keys_equal equal (Long x) (Short b) = false
keys_equal equal (Long x) (Long y) = equal x y

-- The key is a number, and this one.
abbrev pub short_equal : {U : Type 0} → ℕ → TextKey U → Bool
short_equal a (Short b) = a == b
short_equal a (Long y) = false

-- The keys are the texts', in the same order.
abbrev pub AreKeysOf : {A : Type 0} → List (TextKey (String A)) → List (List ℕ) → Type 0
AreKeysOf keys texts = AllZip (IsKeyOf string_bytes) keys texts

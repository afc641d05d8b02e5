-- internal: terms that a page may be asked for behind
use Rattle.std.specs.Prelude.{ℕ, ◌<◌, ◌^◌, List, length, slice_index_or}
use Rattle.cls_base.specs.Terms.{Applicative, component, length_of}

-- none of the terms has 2 ^ 32 or more components
abbrev pub AreShort : List Applicative → Type 0
AreShort ts = (i : ℕ) → i < length ts → length_of (slice_index_or ts i (component 0)) < 2 ^ 32

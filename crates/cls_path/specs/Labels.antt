-- internal: labels of paths, made of spans of the classes of their names. If a path is below another one, the span of its
-- end has that of the other's end, and the spans of its sources lie in those of the other's. So labels tell most pairs apart.
-- Its stem goes on from that of the other one: the names and the sides of products that it begins with, arrows left out.
use Rattle.std.specs.Prelude.{ℕ, zero, suc, ◌+◌, ◌*◌, ◌%◌, ◌^◌, ◌≡◌, ◌≤◌, ◌==◌, min, max, cond, Bool, true, false, ◌&&◌, nat_le, List, [], ◌∷◌}
use Rattle.cls_path.specs.Paths.{TypePath, atom, inside, unit, left, right, function, sealed, Paths, none, more}
use Rattle.cls_path.specs.declared.label.Span.{Span}
use Rattle.cls_path.specs.declared.label.Label.{Label}
use Rattle.cls_path.specs.declared.label.Mask.{Mask}
use Rattle.cls_path.specs.declared.label.GroupKey.{GroupKey}

-- the greatest number of 64 bits
abbrev pub greatest : ℕ
greatest = 18446744073709551615

-- no number, one number of 64 bits, and the numbers of two spans with those between
abbrev pub no_span : Span
no_span = record { low = greatest; high = 0 }

abbrev pub one_span : ℕ → Span
one_span n = record { low = min n greatest; high = min n greatest }

abbrev pub join : Span → Span → Span
join s t = record { low = min s.low t.low; high = max s.high t.high }

-- the number 0 alone, and the sums of both low and of both high numbers, within 64 bits
abbrev pub zero_span : Span
zero_span = record { low = 0; high = 0 }

abbrev pub plus : Span → Span → Span
plus s t = record { low = min (s.low + t.low) greatest; high = min (s.high + t.high) greatest }

-- whether the first span lies within the second
abbrev pub within : Span → Span → Bool
within s t = nat_le t.low s.low && nat_le s.high t.high

-- class is the class of each name
module _ (class : ℕ → ℕ) where
  -- the names of the path, but for those in lists
  abbrev pub names_of : TypePath → Span
  names_of (atom c) = one_span (class c)
  names_of (inside c p) = join (one_span (class c)) (names_of p)
  names_of unit = no_span
  names_of (left p) = names_of p
  names_of (right p) = names_of p
  names_of (function n p) = names_of p
  names_of (sealed c n) = one_span (class c)

  -- the name behind all arrows
  abbrev pub head_of : TypePath → Span
  head_of (atom c) = one_span (class c)
  head_of (inside c p) = one_span (class c)
  head_of unit = no_span
  head_of (left p) = no_span
  head_of (right p) = no_span
  head_of (function n p) = head_of p
  head_of (sealed c n) = one_span (class c)

  -- the names inside it
  abbrev pub inner_of : TypePath → Span
  inner_of (atom c) = no_span
  inner_of (inside c p) = names_of p
  inner_of unit = no_span
  inner_of (left p) = names_of p
  inner_of (right p) = names_of p
  inner_of (function n p) = inner_of p
  inner_of (sealed c n) = no_span

  -- those of a span and of the names of a list
  abbrev pub join_all : Span → Paths → Span
  join_all s none = s
  join_all s (more p n) = join_all (join s (names_of p)) n

  -- the names of a list
  abbrev pub all_names_of : Paths → Span
  all_names_of n = join_all no_span n

  -- the sums over all sources
  abbrev pub sources_of : TypePath → Span
  sources_of (atom c) = zero_span
  sources_of (inside c p) = zero_span
  sources_of unit = zero_span
  sources_of (left p) = zero_span
  sources_of (right p) = zero_span
  sources_of (function n p) = plus (all_names_of n) (sources_of p)
  sources_of (sealed c n) = zero_span

  -- those of the first source, or of the list under the name, else 0
  abbrev pub first_of : TypePath → Span
  first_of (atom c) = zero_span
  first_of (inside c p) = zero_span
  first_of unit = zero_span
  first_of (left p) = zero_span
  first_of (right p) = zero_span
  first_of (function n p) = all_names_of n
  first_of (sealed c n) = all_names_of n

  -- the sums over the later sources, else 0
  abbrev pub later_of : TypePath → Span
  later_of (atom c) = zero_span
  later_of (inside c p) = zero_span
  later_of unit = zero_span
  later_of (left p) = zero_span
  later_of (right p) = zero_span
  later_of (function n p) = sources_of p
  later_of (sealed c n) = zero_span

  abbrev pub label_of : TypePath → Label
  label_of p = record { head = head_of p; inner = inner_of p; first = first_of p; later = later_of p }

-- whether a path with the first label may be below one with the second
abbrev pub admits : Label → Label → Bool
admits l m = within m.head l.head && (within m.inner l.inner && (within l.first m.first && within l.later m.later))

-- the span is one number
abbrev pub is_single : Span → Bool
is_single s = s.low == s.high

-- the first number spread over 64 bits, and the second added
abbrev pub mixed : ℕ → ℕ → ℕ
mixed m n = ((m * 11400714819323198485) % 2 ^ 64 + n) % 2 ^ 64

-- how many names stand on the way to the end, at most the greatest number
abbrev pub depth_of : TypePath → ℕ
depth_of (atom c) = 1
depth_of (inside c p) = min (depth_of p + 1) greatest
depth_of unit = 0
depth_of (left p) = depth_of p
depth_of (right p) = depth_of p
depth_of (function n p) = depth_of p
depth_of (sealed c n) = 1

-- The first so many names on the way, and the sides of products before them, mixed into the number. A name counts as its code.
abbrev pub stem_of : (ℕ → ℕ) → ℕ → ℕ → TypePath → ℕ
stem_of code zero s p = s
stem_of code (suc k) s (atom c) = mixed s (code c)
stem_of code (suc k) s (inside c p) = stem_of code k (mixed s (code c)) p
stem_of code (suc k) s unit = s
stem_of code (suc k) s (left p) = stem_of code (suc k) (mixed s 0) p
stem_of code (suc k) s (right p) = stem_of code (suc k) (mixed s 1) p
stem_of code (suc k) s (function n p) = stem_of code (suc k) s p
stem_of code (suc k) s (sealed c n) = mixed s (code c)

-- the name itself if the names are alone, else its class
abbrev pub code_by : Bool → (ℕ → ℕ) → ℕ → ℕ
code_by alone class c = cond alone c (class c)

-- the spans of sources by their names if they are alone, else by their classes
abbrev pub first_by : Bool → (ℕ → ℕ) → TypePath → Span
first_by own class p = cond own (first_of (λ c. c) p) (first_of class p)

abbrev pub later_by : Bool → (ℕ → ℕ) → TypePath → Span
later_by own class p = cond own (later_of (λ c. c) p) (later_of class p)

-- each name on the way to the end is such a name
abbrev pub HasNames : (ℕ → Type 0) → TypePath → Type 0
HasNames f (atom c) = f c
HasNames f (inside c p) = f c × HasNames f p
HasNames f unit = Unit {0}
HasNames f (left p) = HasNames f p
HasNames f (right p) = HasNames f p
HasNames f (function n p) = HasNames f p
HasNames f (sealed c n) = f c

-- the source of each leading arrow, and the list under the name, is such a list
abbrev pub HasLists : (Paths → Type 0) → TypePath → Type 0
HasLists f (atom c) = Unit {0}
HasLists f (inside c p) = Unit {0}
HasLists f unit = Unit {0}
HasLists f (left p) = Unit {0}
HasLists f (right p) = Unit {0}
HasLists f (function n p) = f n × HasLists f p
HasLists f (sealed c n) = f n

module _ (below : ℕ → ℕ → Type 0) where
  -- no other name is below the name
  abbrev pub IsAlone : ℕ → Type 0
  IsAlone c = (a : ℕ) → below a c → a ≡ c

  -- the names on the way to the end are alone
  abbrev pub AreAlone : TypePath → Type 0
  AreAlone p = HasNames IsAlone p

  -- the list is one bare name, and alone
  abbrev pub IsLoneName : Paths → Type 0
  IsLoneName (more (atom c) none) = IsAlone c
  IsLoneName _ = ⊥

  -- the sources are bare names, and alone
  abbrev pub AreLoneSources : TypePath → Type 0
  AreLoneSources p = HasLists IsLoneName p

-- the mask of any paths, and what no path has narrowed yet
abbrev pub heads_mask : Mask
heads_mask = record { depth = 0; alone = false; own = false; first = false; later = false }

abbrev pub whole_mask : Mask
whole_mask = record { depth = greatest; alone = false; own = false; first = true; later = true }

-- by the spans of first sources and of later ones
module _ (firsts laters : TypePath → Span) where
  -- as much of the mask as is true of the path too, but for which names are alone
  abbrev pub narrowed : Mask → TypePath → Mask
  narrowed m p = record {
    depth = min m.depth (depth_of p);
    alone = m.alone;
    own = m.own;
    first = m.first && is_single (firsts p);
    later = m.later && is_single (laters p);
  }

  -- as much as is true of all paths
  abbrev pub mask_from : Mask → List TypePath → Mask
  mask_from m [] = m
  mask_from m (p ∷ n) = mask_from (narrowed m p) n

  -- the path has so many names on its way, and the spans of the mask are one number each
  abbrev pub IsMasked : Mask → TypePath → Type 0
  IsMasked m p =
      (m.depth ≤ depth_of p)
      × (m.first ≡ true → (firsts p).low ≡ (firsts p).high)
      × (m.later ≡ true → (laters p).low ≡ (laters p).high)

-- what a mask says is true of the path
abbrev pub Fits : (ℕ → ℕ → Type 0) → (ℕ → ℕ) → Mask → TypePath → Type 0
Fits below class m p =
    IsMasked (first_by m.own class) (later_by m.own class) m p × (m.alone ≡ true → AreAlone below p)
    × (m.own ≡ true → AreLoneSources below p)

-- the least number of the span, or 0
abbrev pub low_when : Span → Bool → ℕ
low_when s kept = cond kept s.low 0

module _ (class : ℕ → ℕ) where
  -- what paths share if one is below the other and the mask fits both
  abbrev pub key_of : Mask → TypePath → GroupKey
  key_of m p = record {
    head = (head_of class p).low;
    stem = stem_of (code_by m.alone class) m.depth 0 p;
    first = low_when (first_by m.own class p) m.first;
    later = low_when (later_by m.own class p) m.later;
  }

-- a number that few other keys have
abbrev pub digest_of : GroupKey → ℕ
digest_of k = mixed (mixed (mixed k.head k.stem) k.first) k.later

-- What holds of each query that is read from a line.
use Rattle.std.specs.Prelude.{ℕ, ◌<◌, ◌≤◌, ◌^◌, Bool, false, List, [], ◌∷◌, IfSome, length}
use Rattle.cls_base.specs.Limits.{max_term_size}
use Rattle.cls_base.specs.Terms.{IsTermOver, length_of}
use Rattle.cls_lexer.specs.Words.{Word}
use Rattle.cls_syntax.specs.Fronts.{is_word}
use Rattle.cls_query.specs.declared.query.Query.TheVariants.{Paths, Typed, About, Page, Filtered, Batch}
use Rattle.cls_query.specs.declared.word.GoalWord.TheVariants.{Verify}
use Rattle.cls_query.specs.QueryForms.{max_batch_types}
use Rattle.cls_query.specs.Queries.{Listing, Query}

-- The page can be listed where there are n components: the greatest size is one that is allowed, some terms are asked
-- for, and the cursor is a term over the components whose length fits 32 bits.
pub record IsPageAsked (n : ℕ) (q : Listing) : Type 0 where
  pub max : q.max ≤ max_term_size
  pub some : 1 ≤ q.take
  pub cursor : IfSome q.after (λ e. IsTermOver n e × (length_of e < 2 ^ 32))

-- Each component that the query names is one of the n, each filter is one of the m, the page that it asks for can be
-- listed, and a batch has some types and no more than it may.
abbrev pub IsReadable : (n m : ℕ) → Query → Type 0
IsReadable n m (Paths x) = x < n
IsReadable n m (Typed e t) = IsTermOver n e
IsReadable n m (Page word q) = IsPageAsked n q
IsReadable n m (Filtered f q) = (f < m) × IsPageAsked n q
IsReadable n m (Batch types) = (1 ≤ length types) × (length types ≤ max_batch_types)
IsReadable n m _ = Unit {0}

-- The query asks whether a certificate is one for its type.
abbrev pub IsVerify : Query → Type 0
IsVerify (About Verify t) = Unit {0}
IsVerify _ = ⊥

-- The first word is this very name.
abbrev pub begins_with : List ℕ → List Word → Bool
begins_with x [] = false
begins_with x (w ∷ ws) = is_word x w

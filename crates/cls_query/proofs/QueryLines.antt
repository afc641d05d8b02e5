-- Queries as they are read: exactly what the words say is read, and a stop is at the first word that can't follow.
use Rattle.std.proofs.Common.{◌≡◌, ℕ, false, List, [], ◌∷◌, ◌++◌, refl, ap, sym, ◌∙◌, subst, rules, codes}
use Rattle.std.specs.Prelude.{Bool, Option, Some, None, Result, Ok, Err}
use Rattle.std.specs.Option.{option_map}
use Rattle.std.proofs.lemmas.Bool.{true≢false}
use Rattle.cls_base.specs.Firsts.{IsSilent}
use Rattle.cls_lexer.specs.Words.{Word, name, words_of}
use Rattle.cls_syntax.specs.Faults.{Stop, stop, CanGoOn, Refuses, IsFault, Says, Exactly}
use Rattle.cls_syntax.specs.Forms.{Values, the_word, line_words, LineStands}
use Rattle.cls_syntax.specs.GoodForms.{IsGood}
use Rattle.cls_syntax.specs.LineReading.{item_front, line_read}
use Rattle.cls_syntax.specs.TermTexts.{TermText}
use Rattle.cls_syntax.proofs.ItemFronts.{item_ok}
use Rattle.cls_syntax.proofs.LineParts.{line_exactly, line_reads}
use Rattle.cls_syntax.proofs.OnePlace.{line_stays}
use Rattle.cls_query.specs.declared.query.Query.TheVariants.{Sub, Paths, Typed, About, Page, Filtered, Batch}
use Rattle.cls_query.specs.declared.word.GoalWord.{GoalWord}
use Rattle.cls_query.specs.declared.word.GoalWord.TheVariants.{Inhabit}
use Rattle.cls_query.specs.declared.word.ListingWord.{ListingWord}
use Rattle.cls_query.specs.declared.word.ListingWord.TheVariants as listing
use Rattle.cls_query.specs.declared.word.QueryWord.{QueryWord}
use Rattle.cls_query.specs.declared.word.QueryWord.TheVariants as word
use Rattle.cls_query.specs.QueryErrors.{IsQuery, leaves_table}
use Rattle.cls_query.specs.QueryForms.{goal_word_text, listing_word_text, word_text, goal_words, listing_words, listing_form, form_of}
use Rattle.cls_query.specs.QueryReading.{or_later, front_in, goal_front, listing_front, either_front, query_front, query_at, said_of, query_behind, query_read}
use Rattle.cls_query.specs.Queries.{QueryText, word_of, values_of, query_words, QueryStands}
use Rattle.cls_query.proofs.Searches.{nothing_found, some_or}

-- THE WORD
-- it is found in front of what follows it
again : (w : QueryWord) (ws : List Word) → query_front (name (word_text w) ∷ ws) ≡ Some (w, ws)
again word.Sub ws = refl
again word.Paths ws = refl
again word.Typed ws = refl
again word.Filtered ws = refl
again word.Batch ws = refl
again (word.About Inhabit) ws = refl
again (word.About w) ws = refl
again (word.Page listing.List) ws = refl
again (word.Page w) ws = refl

word_is : (x : List ℕ) (ws : List Word) (p : Unit {0} × List Word) → item_front (the_word x) ws ≡ Ok p → ws ≡ name x ∷ p.1
word_is x ws p h = (item_ok (the_word x) ws p.1 p.0 h).0

-- what is found is in front
module _ {W : Type 0} (text : W → List ℕ) where
  abbrev Begins : List Word → W × List Word → Type 0
  Begins ws p = ws ≡ name (text p.0) ∷ p.1

  begins_same : (ws : List Word) (p q : W × List Word) → Some p ≡ Some q → Begins ws p → Begins ws q
  begins_same ws p q e h = subst (λ (x : W × List Word). Begins ws x) (ap (λ (o : Option (W × List Word)). some_or q o) e) h

  step : (w : W) (ws : List Word) (others : Option (W × List Word)) (p : W × List Word) → (others ≡ Some p → Begins ws p)
      → or_later w (item_front (the_word (text w)) ws) others ≡ Some p → Begins ws p
  step w ws others p on h =
      (elim (item_front (the_word (text w)) ws) as (λ (r : Result (Unit {0} × List Word) Stop). item_front (the_word (text w)) ws ≡ r → or_later w r others ≡ Some p → Begins ws p) [
        | Ok q ↦ λ e k. begins_same ws (w, q.1) p k (word_is (text w) ws q e)
        | Err d ↦ λ e k. on k
      ]) refl h

  found : (all : List W) (ws : List Word) (p : W × List Word) → front_in text all ws ≡ Some p → Begins ws p
  found [] ws p h = absurd (nothing_found p h)
  found (w ∷ all) ws p h = step w ws (front_in text all ws) p (λ k. found all ws p k) h

abbrev behind_batch : List Word → Option (QueryWord × List Word)
behind_batch ws = either_front (goal_front ws) (listing_front ws)

abbrev behind_filtered : List Word → Option (QueryWord × List Word)
behind_filtered ws = or_later word.Batch (item_front (the_word (word_text word.Batch)) ws) (behind_batch ws)

abbrev behind_typed : List Word → Option (QueryWord × List Word)
behind_typed ws = or_later word.Filtered (item_front (the_word (word_text word.Filtered)) ws) (behind_filtered ws)

abbrev behind_paths : List Word → Option (QueryWord × List Word)
behind_paths ws = or_later word.Typed (item_front (the_word (word_text word.Typed)) ws) (behind_typed ws)

abbrev behind_sub : List Word → Option (QueryWord × List Word)
behind_sub ws = or_later word.Paths (item_front (the_word (word_text word.Paths)) ws) (behind_paths ws)

either : (ws : List Word) (g : Option (GoalWord × List Word)) (l : Option (ListingWord × List Word)) (p : QueryWord × List Word) → goal_front ws ≡ g → listing_front ws ≡ l
    → either_front g l ≡ Some p → ws ≡ name (word_text p.0) ∷ p.1
either ws (Some q) l p e f h = begins_same word_text ws (word.About q.0, q.1) p h (found goal_word_text goal_words ws q e)
either ws None (Some q) p e f h = begins_same word_text ws (word.Page q.0, q.1) p h (found listing_word_text listing_words ws q f)
either ws None None p e f h = absurd (nothing_found p h)

front_is : (ws : List Word) (p : QueryWord × List Word) → query_front ws ≡ Some p → ws ≡ name (word_text p.0) ∷ p.1
front_is ws p h =
    step word_text word.Sub ws (behind_sub ws) p (λ k.
    step word_text word.Paths ws (behind_paths ws) p (λ m.
    step word_text word.Typed ws (behind_typed ws) p (λ n.
    step word_text word.Filtered ws (behind_filtered ws) p (λ j.
    step word_text word.Batch ws (behind_batch ws) p (λ i.
    either ws (goal_front ws) (listing_front ws) p refl refl i) j) n) m) k) h

-- no word is in front of which one of a query would be found
another : (w : QueryWord) (ws : List Word) → query_front (name (word_text w) ∷ ws) ≡ None → ⊥
another w ws e = nothing_found (w, ws) (sym e ∙ again w ws)

same_word : (k w : QueryWord) → word_text k ≡ word_text w → k ≡ w
same_word k w e =
    ap (λ (o : Option (QueryWord × List Word)). (some_or (w, []) o).0)
    (sym (again k []) ∙ (ap (λ (x : List ℕ). query_front (name x ∷ [])) e ∙ again w []))

-- WHAT FOLLOWS IT
form_good : (w : QueryWord) → IsGood (form_of w)
form_good word.Sub = search rules
form_good word.Paths = search rules
form_good word.Typed = search rules
form_good word.Filtered = search rules
form_good word.Batch = search rules
form_good (word.About w) = search rules
form_good (word.Page w) = search rules

-- a cursor in front of nothing, and back
pub with_end : (o : Option (TermText × Unit {0})) → option_map (λ e. (e, tt)) (option_map (λ (a : TermText × Unit {0}). a.0) o) ≡ o
with_end None = refl
with_end (Some a) = refl

without_end : (o : Option TermText) → option_map (λ (a : TermText × Unit {0}). a.0) (option_map (λ e. (e, tt)) o) ≡ o
without_end None = refl
without_end (Some e) = refl

words_at : (w : QueryWord) (v : Values (form_of w)) → query_words (query_at w v) ≡ name (word_text w) ∷ line_words (form_of w) v
words_at word.Sub v = refl
words_at word.Paths v = refl
words_at word.Typed v = refl
words_at word.Filtered v = ap (λ (o : Option (TermText × Unit {0})). name (codes "filtered") ∷ name v.0 ∷ line_words listing_form (v.1.0, (v.1.1.0, (v.1.1.1.0, o)))) (with_end v.1.1.1.1)
words_at word.Batch v = refl
words_at (word.About w) v = refl
words_at (word.Page w) v = ap (λ (o : Option (TermText × Unit {0})). name (listing_word_text w) ∷ line_words listing_form (v.0, (v.1.0, (v.1.1.0, o)))) (with_end v.1.1.1)

stands_at : (w : QueryWord) (v : Values (form_of w)) → LineStands (form_of w) v → QueryStands (query_at w v)
stands_at word.Sub v s = s
stands_at word.Paths v s = s
stands_at word.Typed v s = s
stands_at word.Filtered v s = (s.0, subst (λ (o : Option (TermText × Unit {0})). LineStands listing_form (v.1.0, (v.1.1.0, (v.1.1.1.0, o)))) (sym (with_end v.1.1.1.1)) s.1)
stands_at word.Batch v s = s
stands_at (word.About w) v s = s
stands_at (word.Page w) v s = subst (λ (o : Option (TermText × Unit {0})). LineStands listing_form (v.0, (v.1.0, (v.1.1.0, o)))) (sym (with_end v.1.1.1)) s

said_again : (q : QueryText) → query_at (word_of q) (values_of q) ≡ q
said_again (Sub s t) = refl
said_again (Paths x) = refl
said_again (Typed e t) = refl
said_again (About w t) = refl
said_again (Page w l) =
    let after : Option TermText → QueryText = λ o. Page w (record { goal = l.goal; max = l.max; take = l.take; after = o }) in
    ap after (without_end l.after)
said_again (Filtered x l) =
    let after : Option TermText → QueryText = λ o. Filtered x (record { goal = l.goal; max = l.max; take = l.take; after = o }) in
    ap after (without_end l.after)
said_again (Batch ts) = refl

-- THE LINE
-- each query is read as what it is
reads : (q : QueryText) → QueryStands q → query_read (query_words q) ≡ Ok q
reads q s =
    ap (λ (o : Option (QueryWord × List Word)). query_behind (query_words q) o) (again (word_of q) (line_words (form_of (word_of q)) (values_of q)))
    ∙ (ap (λ (r : Result (Values (form_of (word_of q))) Stop). said_of (word_of q) r) (line_reads (form_of (word_of q)) (values_of q) (form_good (word_of q)) s)
    ∙ ap (λ (a : QueryText). Ok a) (said_again q))

abbrev GoesOn : List Word → Type 0
GoesOn front = CanGoOn query_words QueryStands front

abbrev FormGoesOn : QueryWord → List Word → Type 0
FormGoesOn w front = CanGoOn (line_words (form_of w)) (LineStands (form_of w)) front

abbrev FormRefuses : QueryWord → (front rest : List Word) → Type 0
FormRefuses w front rest = Refuses (line_words (form_of w)) (LineStands (form_of w)) front rest

goes : (w : QueryWord) (front : List Word) → FormGoesOn w front → GoesOn (name (word_text w) ∷ front)
goes w front go = record {
  line = query_at w go.line;
  stands = stands_at w go.line go.stands;
  more = go.more;
  begins = words_at w go.line ∙ ap (λ (us : List Word). name (word_text w) ∷ us) go.begins;
}

-- a line that begins with the word is one of its form
firsts : (x y : List ℕ) (us vs : List Word) → name x ∷ us ≡ name y ∷ vs → x ≡ y
firsts x y us vs e = cc

rests : (x y : List ℕ) (us vs : List Word) → name x ∷ us ≡ name y ∷ vs → us ≡ vs
rests x y us vs e = cc

back : (w : QueryWord) (front : List Word) → GoesOn (name (word_text w) ∷ front) → FormGoesOn w front
back w front go =
    let k = word_of go.line in
    let ws = line_words (form_of (word_of go.line)) (values_of go.line) in
    subst (λ (u : QueryWord). FormGoesOn u front) (same_word k w (firsts (word_text k) (word_text w) ws (front ++ go.more) go.begins))
    (record { line = values_of go.line; stands = go.stands; more = go.more; begins = rests (word_text k) (word_text w) ws (front ++ go.more) go.begins })

refused : (w : QueryWord) (front rest : List Word) → FormRefuses w front rest → Refuses query_words QueryStands (name (word_text w) ∷ front) rest
refused w front [] r = λ q s is.
    let k = word_of q in
    let ws = line_words (form_of (word_of q)) (values_of q) in
    let same = same_word k w (firsts (word_text k) (word_text w) ws front is) in
    let none : FormRefuses k front [] = subst (λ (u : QueryWord). FormRefuses u front []) (sym same) r in
    none (values_of q) s (rests (word_text k) (word_text w) ws front is)
refused w front (u ∷ us) r = λ go. r (back w (front ++ u ∷ []) go)

-- no word of a query is in front
first_is : (x : List ℕ) (w : Word) (us vs : List Word) → name x ∷ us ≡ w ∷ vs → name x ≡ w
first_is x w us vs e = cc

refused_first : (ws : List Word) → query_front ws ≡ None → Refuses query_words QueryStands [] ws
refused_first [] e = λ q s is. cc
refused_first (w ∷ us) e = λ go.
    let k = word_of go.line in
    let first : name (word_text k) ≡ w = first_is (word_text k) w (line_words (form_of (word_of go.line)) (values_of go.line)) go.more go.begins in
    another k us (subst (λ (v : Word). query_front (v ∷ us) ≡ None) (sym first) e)

nameless : (GoesOn (name [] ∷ [])) → ⊥
nameless go =
    let k = word_of go.line in
    let empty : word_text k ≡ [] = firsts (word_text k) [] (line_words (form_of (word_of go.line)) (values_of go.line)) go.more go.begins in
    another k [] (subst (λ (x : List ℕ). query_front (name x ∷ []) ≡ None) (sym empty) refl)

-- some query, which a line may say
some_query : QueryText
some_query = Paths (codes "x")

some_stands : QueryStands some_query
unfolding some_query
some_stands = (refl, tt)

no_word : (ws : List Word) → query_front ws ≡ None → IsFault query_words QueryStands ws ws false
no_word ws e = record {
  front = [];
  split = refl;
  live = record { line = some_query; stands = some_stands; more = query_words some_query; begins = refl };
  refused = refused_first ws e;
  named = (λ h. absurd (true≢false (sym h)), λ all. absurd (nameless (all [] refl)));
}

module _ (ws : List Word) (w : QueryWord) (rest : List Word) (is : ws ≡ name (word_text w) ∷ rest) where
  behind_word : (r : Result (Values (form_of w)) Stop) → Exactly (line_words (form_of w)) (LineStands (form_of w)) rest r → Exactly query_words QueryStands ws (said_of w r)
  behind_word (Ok v) x = record {
    spelled = words_at w v ∙ (ap (λ (us : List Word). name (word_text w) ∷ us) x.spelled ∙ sym is);
    stands = stands_at w v x.stands;
  }
  behind_word (Err (stop left b)) x = record {
    front = name (word_text w) ∷ x.front;
    split = is ∙ ap (λ (us : List Word). name (word_text w) ∷ us) x.split;
    live = goes w x.front x.live;
    refused = refused w x.front left x.refused;
    named = (
      λ h y plain. goes w (x.front ++ name y ∷ []) (x.named.0 h y plain),
      λ all. x.named.1 (λ y plain. back w (x.front ++ name y ∷ []) (all y plain)),
    );
  }

-- exactly the queries are read, and a stop is at the first word that can't follow
pub exactly : (ws : List Word) → Exactly query_words QueryStands ws (query_read ws)
exactly ws =
    (elim (query_front ws) as (λ (o : Option (QueryWord × List Word)). query_front ws ≡ o → Exactly query_words QueryStands ws (query_behind ws o)) [
      | None ↦ λ e. no_word ws e
      | Some p ↦ λ e. behind_word ws p.0 p.1 (front_is ws p e) (line_read (form_of p.0) p.1) (line_exactly (form_of p.0) p.1 (form_good p.0))
    ]) refl

abbrev said_or : {A : Type 0} → A → Result A Stop → A
said_or a (Ok b) = b
said_or a (Err e) = a

module _ (ws : List Word) where
  pub read_says : (said : QueryText) → query_read ws ≡ Ok said → Says query_words QueryStands said ws
  read_says said e = subst (λ (r : Result QueryText Stop). Exactly query_words QueryStands ws r) e (exactly ws)

  pub stop_leaves : (rest : List Word) (b : Bool) → query_read ws ≡ Err (stop rest b) → IsFault query_words QueryStands ws rest b
  stop_leaves rest b e = subst (λ (r : Result QueryText Stop). Exactly query_words QueryStands ws r) e (exactly ws)

  pub said_reads : (said : QueryText) → Says query_words QueryStands said ws → query_read ws ≡ Ok said
  said_reads said s = subst (λ (us : List Word). query_read us ≡ Ok said) s.spelled (reads said s.stands)

  pub said_one : (a b : QueryText) → Says query_words QueryStands a ws → Says query_words QueryStands b ws → a ≡ b
  said_one a b p q = ap (λ (r : Result QueryText Stop). said_or a r) (sym (said_reads a p) ∙ said_reads b q)

module _ (line : List ℕ) (said : QueryText) (says : Says query_words QueryStands said (words_of line)) where
  -- what holds of some query of the line holds of the one that it is
  pub holds_of : (P : QueryText → Type 0) → IsQuery line P → P said
  holds_of P q = subst P (said_one (words_of line) q.0 said q.1 says) q.2

  -- nothing is said of where the line leaves the table
  pub stays_silent : IsSilent (leaves_table line)
  stays_silent t h = line_stays query_words QueryStands said (words_of line) h.2.rest h.2.wants_name says h.2.fault

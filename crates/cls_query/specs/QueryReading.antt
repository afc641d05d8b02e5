-- internal: how a query is read from the left, its first word and then what the form of the word says
use Rattle.std.specs.Prelude.{ℕ, ◌≡◌, false, List, [], ◌∷◌, Option, Some, None, Result, Ok, Err, MatchResult}
use Rattle.std.specs.Option.{option_map}
use Rattle.cls_lexer.specs.Words.{Word}
use Rattle.cls_syntax.specs.declared.stop.Stop as code
use Rattle.cls_syntax.specs.Faults.{Stop, stop}
use Rattle.cls_syntax.specs.Forms.{Values, the_word}
use Rattle.cls_syntax.specs.LineReading.{item_front, line_read}
use Rattle.cls_syntax.specs.Stops.{stop_of}
use Rattle.cls_query.specs.declared.query.Query.TheVariants as query
use Rattle.cls_query.specs.declared.word.GoalWord.{GoalWord}
use Rattle.cls_query.specs.declared.word.ListingWord.{ListingWord}
use Rattle.cls_query.specs.declared.word.QueryWord.{QueryWord}
use Rattle.cls_query.specs.declared.word.QueryWord.TheVariants.{Sub, Paths, Typed, Filtered, Batch, About, Page}
use Rattle.cls_query.specs.FormAnswers.{SpelledQuery, query_text}
use Rattle.cls_query.specs.QueryForms.{goal_word_text, listing_word_text, word_text, goal_words, listing_words, listing_form, form_of}
use Rattle.cls_query.specs.Queries.{ListingText, QueryText}

-- THE FIRST WORD
-- A word that stands in front with what follows it, or what is found of other words.
abbrev pub or_later :
    {W : Type 0} → W → Result (Unit {0} × List Word) Stop → Option (W × List Word) → Option (W × List Word)
or_later word (Ok p) others = Some (word, p.1)
or_later word (Err e) others = others

abbrev pub front_in : {W : Type 0} → (W → List ℕ) → List W → List Word → Option (W × List Word)
front_in text [] ws = None
front_in text (word ∷ others) ws = or_later word (item_front (the_word (text word)) ws) (front_in text others ws)

abbrev pub goal_front : List Word → Option (GoalWord × List Word)
goal_front ws = front_in goal_word_text goal_words ws

abbrev pub listing_front : List Word → Option (ListingWord × List Word)
listing_front ws = front_in listing_word_text listing_words ws

abbrev pub either_front :
    Option (GoalWord × List Word) → Option (ListingWord × List Word) → Option (QueryWord × List Word)
either_front (Some p) other = Some (About p.0, p.1)
either_front None (Some p) = Some (Page p.0, p.1)
either_front None None = None

-- the word of a query in front, and what follows it
abbrev pub query_front : List Word → Option (QueryWord × List Word)
query_front ws =
    or_later Sub (item_front (the_word (word_text Sub)) ws)
    (or_later Paths (item_front (the_word (word_text Paths)) ws)
    (or_later Typed (item_front (the_word (word_text Typed)) ws)
    (or_later Filtered (item_front (the_word (word_text Filtered)) ws)
    (or_later Batch (item_front (the_word (word_text Batch)) ws)
    (either_front (goal_front ws) (listing_front ws))))))

-- WHAT FOLLOWS IT
abbrev pub listing_at : Values listing_form → ListingText
listing_at v = record { goal = v.0; max = v.1.0; take = v.1.1.0; after = option_map (λ a. a.0) v.1.1.1 }

-- the query of the word, of whose form a line says this
abbrev pub query_at : (word : QueryWord) → Values (form_of word) → QueryText
query_at Sub v = query.Sub v.0 v.1.0
query_at Paths v = query.Paths v.0
query_at Typed v = query.Typed v.0 v.1.0
query_at Filtered v = query.Filtered v.0 (listing_at v.1)
query_at Batch v = query.Batch v
query_at (About word) v = query.About word v.0
query_at (Page word) v = query.Page word (listing_at v)

abbrev pub said_of : (word : QueryWord) → Result (Values (form_of word)) Stop → Result QueryText Stop
said_of word (Ok v) = Ok (query_at word v)
said_of word (Err e) = Err e

-- what the words behind the word say
abbrev pub query_after : QueryWord → List Word → Result QueryText Stop
query_after word ws = said_of word (line_read (form_of word) ws)

abbrev pub query_behind : List Word → Option (QueryWord × List Word) → Result QueryText Stop
query_behind ws None = Err (stop ws false)
query_behind ws (Some p) = query_after p.0 p.1

-- what the words say
abbrev pub query_read : List Word → Result QueryText Stop
query_read ws = query_behind ws (query_front ws)

-- The code's query is what was read, or its stop is.
abbrev pub Gives : Result QueryText Stop → Result SpelledQuery code.Stop → Type 0
Gives read result = MatchResult result (λ q. read ≡ Ok (query_text q)) (λ s. read ≡ Err (stop_of s))

-- The words that queries begin with, and the form of what follows each.
use Rattle.std.specs.Prelude.{ℕ, List, [], ◌∷◌, codes}
use Rattle.cls_base.specs.Limits.{max_term_size, max_page_terms}
use Rattle.cls_lexer.specs.declared.token.TokenKind.TheVariants.{Colon, AtMost}
use Rattle.cls_syntax.specs.declared.role.Role.TheVariants.{Component, Filter}
use Rattle.cls_syntax.specs.Forms.{Form, nothing, ◌⨾◌, perhaps, types, the_word, the_sign, a_name, a_number, a_type, a_term}
use Rattle.cls_query.specs.declared.word.GoalWord.{GoalWord}
use Rattle.cls_query.specs.declared.word.GoalWord.TheVariants.{Inhabit, Grammar, Audit, Certify, Verify, Finite}
use Rattle.cls_query.specs.declared.word.ListingWord.{ListingWord}
use Rattle.cls_query.specs.declared.word.ListingWord.TheVariants as listing
use Rattle.cls_query.specs.declared.word.QueryWord.{QueryWord}
use Rattle.cls_query.specs.declared.word.QueryWord.TheVariants.{Sub, Paths, Typed, Filtered, Batch, About, Page}

-- THE WORDS
abbrev pub goal_word_text : GoalWord → List ℕ
goal_word_text Inhabit = codes "inhabit"
goal_word_text Grammar = codes "grammar"
goal_word_text Audit = codes "audit"
goal_word_text Certify = codes "certify"
goal_word_text Verify = codes "verify"
goal_word_text Finite = codes "finite"

abbrev pub listing_word_text : ListingWord → List ℕ
listing_word_text listing.List = codes "list"
listing_word_text listing.Texts = codes "texts"

abbrev pub word_text : QueryWord → List ℕ
word_text Sub = codes "sub"
word_text Paths = codes "paths"
word_text Typed = codes "typed"
word_text Filtered = codes "filtered"
word_text Batch = codes "batch"
word_text (About word) = goal_word_text word
word_text (Page word) = listing_word_text word

-- all words that stand before one type, and all that stand before a listing
abbrev pub goal_words : List GoalWord
goal_words = Inhabit ∷ Grammar ∷ Audit ∷ Certify ∷ Verify ∷ Finite ∷ []

abbrev pub listing_words : List ListingWord
listing_words = listing.List ∷ listing.Texts ∷ []

-- THE FORMS
-- TYPE <= TYPE
abbrev pub comparison_form : Form
comparison_form = a_type ⨾ the_sign AtMost ⨾ a_type ⨾ nothing

-- NAME
abbrev pub component_form : Form
component_form = a_name Component ⨾ nothing

-- TERM : TYPE
abbrev pub typing_form : Form
typing_form = a_term ⨾ the_sign Colon ⨾ a_type ⨾ nothing

-- TYPE
abbrev pub goal_form : Form
goal_form = a_type ⨾ nothing

-- after TERM
abbrev pub cursor_form : Form
cursor_form = the_word (codes "after") ⨾ a_term ⨾ nothing

-- TYPE max N take K, with `after TERM` at will
abbrev pub listing_form : Form
listing_form =
    a_type
    ⨾ the_word (codes "max") ⨾ a_number 1 max_term_size
    ⨾ the_word (codes "take") ⨾ a_number 1 max_page_terms
    ⨾ perhaps cursor_form

-- NAME TYPE max N take K, with `after TERM` at will
abbrev pub filtered_form : Form
filtered_form = a_name Filter ⨾ listing_form

-- TYPE | TYPE ..
abbrev pub batch_form : Form
batch_form = types

-- the most types that a batch may have
abbrev pub max_batch_types : ℕ
max_batch_types = 64

-- what follows the word
abbrev pub form_of : QueryWord → Form
form_of Sub = comparison_form
form_of Paths = component_form
form_of Typed = typing_form
form_of Filtered = filtered_form
form_of Batch = batch_form
form_of (About word) = goal_form
form_of (Page word) = listing_form

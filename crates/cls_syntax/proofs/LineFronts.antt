-- A whole line of a form.
use Rattle.std.proofs.Common.{◌≡◌, ℕ, Bool, false, List, [], ◌∷◌, ◌++◌, map, refl, ap, sym, ◌∙◌, append_assoc, append-nil, subst}
use Rattle.std.specs.Prelude.{Option, Some, None, Result, Ok, Err}
use Rattle.cls_lexer.specs.declared.token.TokenKind.TheVariants.{Bar}
use Rattle.cls_lexer.specs.Words.{Word, name, number}
use Rattle.cls_syntax.specs.Roles.{takes_names, MayStand}
use Rattle.cls_syntax.specs.Faults.{Stop, stop, Always, CanGoOn, Says, Exactly}
use Rattle.cls_syntax.specs.TypeTexts.{TypeList, last, only_meet, only_product, only_atom}
use Rattle.cls_syntax.specs.TypeTexts as grammar
use Rattle.cls_syntax.specs.Forms.{Item, the_word, the_sign, a_name, a_number, a_type, a_term, Form, nothing, ◌⨾◌, perhaps, names, numbers, types, anything, Values}
use Rattle.cls_syntax.specs.GoodForms.{MayFollow, Joins, HasWords, IsWord, IsGood}
use Rattle.cls_syntax.specs.LineReading.{ItemValue, item_front, with_value, valued, and_then, present, name_text, number_text, alone, line_read}
use Rattle.cls_syntax.specs.TypeReading as type
use Rattle.cls_syntax.specs.TypeReading.{type_front}
use Rattle.cls_syntax.specs.TermReading.{term_front}
use Rattle.cls_syntax.specs.TypeLists.{types_words, types_machine, types_front}
use Rattle.cls_syntax.proofs.FrontFaults.{FrontFault}
use Rattle.cls_syntax.proofs.ItemFronts.{StopsAt, item_words, ItemStands, item_some, item_stands, stops_nil, stops_name, stops_number, stops_sign, stops_word, head_stays, item_again, item_ok, item_err, list_reads, types_again, types_ok, types_err}
use Rattle.cls_syntax.proofs.WordLists.{AllMay, names_sort, numbers_sort, all_again, all_ok, all_err}
use Rattle.cls_syntax.proofs.MachineRuns.{Halts, halts_name, stop_parts}
use Rattle.cls_syntax.proofs.TypeListReads as lists
use Rattle.cls_syntax.proofs.Exactness as exactness

-- the two parts of what a line says that begins with an item
abbrev pub head : (i : Item) (f : Form) → Values (i ⨾ f) → ItemValue i
head (the_word x) f v = tt
head (the_sign k) f v = tt
head (a_name r) f v = v.0
head (a_number l g) f v = v.0
head a_type f v = v.0
head a_term f v = v.0

abbrev pub tail : (i : Item) (f : Form) → Values (i ⨾ f) → Values f
tail (the_word x) f v = v
tail (the_sign k) f v = v
tail (a_name r) f v = v.1
tail (a_number l g) f v = v.1
tail a_type f v = v.1
tail a_term f v = v.1

put_parts : (i : Item) (f : Form) (v : Values (i ⨾ f)) → with_value i f (head i f v) (tail i f v) ≡ v
put_parts (the_word x) f v = refl
put_parts (the_sign k) f v = refl
put_parts (a_name r) f v = refl
put_parts (a_number l g) f v = refl
put_parts a_type f v = refl
put_parts a_term f v = refl

-- the words of a line, item by item
abbrev pub form_words : (f : Form) → Values f → List Word
form_words nothing v = []
form_words (i ⨾ f) v = item_words i (head i f v) ++ form_words f (tail i f v)
form_words (perhaps f) None = []
form_words (perhaps f) (Some v) = form_words f v
form_words (names r) xs = map name xs
form_words (numbers l g) ds = map number ds
form_words types ts = types_words Bar ts
form_words anything ws = ws

abbrev pub FormStands : (f : Form) → Values f → Type 0
FormStands nothing v = Unit {0}
FormStands (i ⨾ f) v = ItemStands i (head i f v) × FormStands f (tail i f v)
FormStands (perhaps f) None = Unit {0}
FormStands (perhaps f) (Some v) = FormStands f v
FormStands (names r) xs = AllMay (MayStand r) xs
FormStands (numbers l g) ds = AllMay (λ d. Unit {0}) ds
FormStands types ts = Unit {0}
FormStands anything ws = Unit {0}

words_put : (i : Item) (f : Form) (a : ItemValue i) (v : Values f) → form_words (i ⨾ f) (with_value i f a v) ≡ item_words i a ++ form_words f v
words_put (the_word x) f a v = refl
words_put (the_sign k) f a v = refl
words_put (a_name r) f a v = refl
words_put (a_number l g) f a v = refl
words_put a_type f a v = refl
words_put a_term f a v = refl

pub stands_put : (i : Item) (f : Form) (a : ItemValue i) (v : Values f) → ItemStands i a → FormStands f v → FormStands (i ⨾ f) (with_value i f a v)
stands_put (the_word x) f a v s t = (s, t)
stands_put (the_sign k) f a v s t = (s, t)
stands_put (a_name r) f a v s t = (s, t)
stands_put (a_number l g) f a v s t = (s, t)
stands_put a_type f a v s t = (s, t)
stands_put a_term f a v s t = (s, t)

one_word : (i : Item) → MayFollow i a_type → IsWord i
one_word (the_word x) m = tt
one_word (the_sign k) m = tt
one_word (a_name r) m = tt
one_word (a_number l g) m = tt
one_word a_type m = m
one_word a_term m = m

one_word_too : (i : Item) → MayFollow i a_term → IsWord i
one_word_too (the_word x) m = tt
one_word_too (the_sign k) m = tt
one_word_too (a_name r) m = tt
one_word_too (a_number l g) m = tt
one_word_too a_type m = m
one_word_too a_term m = m

-- what comes next in the form stops the item
joined : (i : Item) (f : Form) (a : ItemValue i) (v : Values f) → Joins i f → StopsAt i a (form_words f v)
joined i nothing a v j = stops_nil i a
joined i (the_word x ⨾ f) a v j = stops_name i a x (form_words f v)
joined i (the_sign kind ⨾ f) a v j = stops_sign i a kind (form_words f v) j
joined i (a_name r ⨾ f) a v j = stops_name i a v.0 (form_words f v.1)
joined i (a_number l g ⨾ f) a v j = stops_number i a v.0 (form_words f v.1)
joined i (a_type ⨾ f) a v j = stops_word i a (form_words (a_type ⨾ f) v) (one_word i j)
joined i (a_term ⨾ f) a v j = stops_word i a (form_words (a_term ⨾ f) v) (one_word_too i j)
joined i (perhaps f) a None j = stops_nil i a
joined i (perhaps f) a (Some v) j = joined i f a v j
joined i (names r) a [] j = stops_nil i a
joined i (names r) a (x ∷ xs) j = stops_name i a x (map name xs)
joined i (numbers l g) a [] j = stops_nil i a
joined i (numbers l g) a (d ∷ ds) j = stops_number i a d (map number ds)
joined i types a ts j = stops_word i a (types_words Bar ts) j
joined i anything a ws j = stops_word i a ws j

pub line_some : (f : Form) → Values f
line_some nothing = tt
line_some (i ⨾ f) = with_value i f (item_some i) (line_some f)
line_some (perhaps f) = None
line_some (names r) = []
line_some (numbers l g) = []
line_some types = last (only_meet (only_product (only_atom grammar.omega)))
line_some anything = []

pub some_stands : (f : Form) → FormStands f (line_some f)
unfolding line_some
some_stands nothing = tt
some_stands (i ⨾ f) = stands_put i f (item_some i) (line_some f) (item_stands i) (some_stands f)
some_stands (perhaps f) = tt
some_stands (names r) = tt
some_stands (numbers l g) = tt
some_stands types = tt
some_stands anything = tt

-- a line with words, after the first one of which the form is known to be there
present_again : (f : Form) (v : Values f) (ws : List Word) → HasWords f → line_read f ws ≡ Ok v → line_read (perhaps f) ws ≡ Ok (Some v)
unfolding type_front term_front types_front
present_again nothing v ws h r = absurd h
present_again (perhaps f) v ws h r = absurd h
present_again (names n) v ws h r = absurd h
present_again (numbers l g) v ws h r = absurd h
present_again anything v ws h r = absurd h
present_again types v (w ∷ ws) h r = ap (λ (x : Result TypeList Stop). present x) r
present_again types v [] h r = cc
present_again (i ⨾ f) v (w ∷ ws) h r = ap (λ (x : Result (Values (i ⨾ f)) Stop). present x) r
present_again (the_word x ⨾ f) v [] h r = cc
present_again (the_sign k ⨾ f) v [] h r = cc
present_again (a_name n ⨾ f) v [] h r = cc
present_again (a_number l g ⨾ f) v [] h r = cc
present_again (a_type ⨾ f) v [] h r = cc
present_again (a_term ⨾ f) v [] h r = cc

types_whole : (ts : TypeList) → types_front Bar (types_words Bar ts) ≡ Ok (ts, [])
types_whole ts = ap (types_front Bar) (sym (append-nil (types_words Bar ts))) ∙ types_again Bar refl ts [] tt

pub line_again : (f : Form) (v : Values f) → IsGood f → FormStands f v → line_read f (form_words f v) ≡ Ok v
line_again nothing v g s = refl
line_again (i ⨾ f) v g s =
    ap (λ (r : Result (ItemValue i × List Word) Stop). and_then i f (λ rest. line_read f rest) r) (item_again i (head i f v) (form_words f (tail i f v)) s.0 (joined i f (head i f v) (tail i f v) g.0))
    ∙ (ap (λ (r : Result (Values f) Stop). valued i f (head i f v) r) (line_again f (tail i f v) g.1 s.1) ∙ ap (λ x. Ok x) (put_parts i f v))
line_again (perhaps f) None g s = refl
line_again (perhaps f) (Some v) g s = present_again f v (form_words f v) g.0 (line_again f v g.1 s)
line_again (names r) xs g s = all_again (name_text r) (takes_names r) name (MayStand r) (names_sort r) xs s
line_again (numbers l g) ds h s = all_again number_text false number (λ d. Unit {0}) numbers_sort ds s
line_again types ts g s = ap (λ (r : Result (TypeList × List Word) Stop). alone r) (types_whole ts)
line_again anything ws g s = refl

-- the head of the words after an item decides whether they make it longer
same_head : (i : Item) (a : ItemValue i) (front vs us : List Word) (w : Word) → StopsAt i a (front ++ w ∷ vs) → StopsAt i a (front ++ w ∷ us)
same_head i a [] vs us w s = head_stays i a w vs us s
same_head i a (x ∷ front) vs us w s = head_stays i a x (front ++ w ∷ vs) (front ++ w ∷ us) s

name_head : (i : Item) (a : ItemValue i) (front rest us : List Word) (x : List ℕ) → StopsAt i a (front ++ rest) → StopsAt i a (front ++ name x ∷ us)
name_head i a [] rest us x s = stops_name i a x us
name_head i a (w ∷ front) rest us x s = head_stays i a w (front ++ rest) (front ++ name x ∷ us) s

-- how a fault of a part is one of the whole
present_err : {B : Type 0} (r : Result B Stop) (e : Stop) → present r ≡ Err e → r ≡ Err e
present_err (Ok b) e h = cc
present_err (Err d) e h = (let same : d ≡ e = cc in ap (λ x. Err x) same)

valued_err : (i : Item) (f : Form) (a : ItemValue i) (r : Result (Values f) Stop) (e : Stop) → valued i f a r ≡ Err e → r ≡ Err e
valued_err i f a (Ok b) e h = cc
valued_err i f a (Err d) e h = (let same : d ≡ e = cc in ap (λ x. Err x) same)

present_ok : {B : Type 0} (r : Result B Stop) (v : Option B) → present r ≡ Ok v → (b : B) × (r ≡ Ok b) × (Some b ≡ v)
present_ok (Ok b) v h = (b, refl, cc)
present_ok (Err e) v h = cc

valued_ok : (i : Item) (f : Form) (a : ItemValue i) (r : Result (Values f) Stop) (v : Values (i ⨾ f)) → valued i f a r ≡ Ok v → (b : Values f) × (r ≡ Ok b) × (with_value i f a b ≡ v)
valued_ok i f a (Ok b) v h = (b, refl, cc)
valued_ok i f a (Err e) v h = cc

-- the line says this
abbrev pub FormSays : (f : Form) → Values f → List Word → Type 0
FormSays f v ws = Says (form_words f) (FormStands f) v ws

alone_ok : (ws : List Word) (ts : TypeList) (r : Result (TypeList × List Word) Stop) → types_front Bar ws ≡ r → alone r ≡ Ok ts → types_words Bar ts ≡ ws
alone_ok ws ts (Ok (us, [])) e h =
    let same : us ≡ ts = cc in
    ap (types_words Bar) (sym same) ∙ (sym (append-nil (types_words Bar us)) ∙ sym (types_ok Bar refl ws [] us e).0)
alone_ok ws ts (Ok (us, w ∷ vs)) e h = cc
alone_ok ws ts (Err d) e h = cc

pub line_ok : (f : Form) (ws : List Word) (v : Values f) → IsGood f → line_read f ws ≡ Ok v → FormSays f v ws
line_ok nothing [] v g h = record { spelled = refl; stands = tt }
line_ok nothing (w ∷ ws) v g h = cc
line_ok (perhaps f) [] v g h = let e : None ≡ v = cc in subst (λ (x : Option (Values f)). FormSays (perhaps f) x []) e (record { spelled = refl; stands = tt })
line_ok (perhaps f) (w ∷ ws) v g h =
    let r = present_ok (line_read f (w ∷ ws)) v h in
    let said = line_ok f (w ∷ ws) r.0 g.1 r.1 in
    subst (λ (x : Option (Values f)). FormSays (perhaps f) x (w ∷ ws)) r.2 (record { spelled = said.spelled; stands = said.stands })
line_ok (i ⨾ f) ws v g h =
    (elim (item_front i ws) as (λ r. item_front i ws ≡ r → and_then i f (λ left. line_read f left) r ≡ Ok v → FormSays (i ⨾ f) v ws) [
      | Err e ↦ λ is k. cc
      | Ok p ↦ λ is k.
          let said = item_ok i ws p.1 p.0 is in
          let r = valued_ok i f p.0 (line_read f p.1) v k in
          let rest = line_ok f p.1 r.0 g.1 r.1 in
          subst (λ (x : Values (i ⨾ f)). FormSays (i ⨾ f) x ws) r.2 (record {
            spelled = words_put i f p.0 r.0 ∙ (ap (λ (x : List Word). item_words i p.0 ++ x) rest.spelled ∙ sym said.0);
            stands = stands_put i f p.0 r.0 said.2 rest.stands;
          })
    ]) refl h
line_ok (names r) ws v g h = let is = all_ok (name_text r) (takes_names r) name (MayStand r) (names_sort r) ws v h in record { spelled = is.0; stands = is.1 }
line_ok (numbers l g) ws v t h = let is = all_ok number_text false number (λ d. Unit {0}) numbers_sort ws v h in record { spelled = is.0; stands = is.1 }
line_ok types ws v g h = record { spelled = alone_ok ws v (types_front Bar ws) refl h; stands = tt }
line_ok anything ws v g h = let e : ws ≡ v = cc in record { spelled = sym e; stands = tt }

perhaps_always : (f : Form) (front us : List Word) (w : Word) (e : Stop) → line_read f (front ++ w ∷ us) ≡ Err e → line_read (perhaps f) (front ++ w ∷ us) ≡ Err e
perhaps_always f [] us w e h = ap (λ (v : Result (Values f) Stop). present v) h
perhaps_always f (x ∷ front) us w e h = ap (λ (v : Result (Values f) Stop). present v) h

abbrev Goes : (f : Form) → List Word → Type 0
Goes f front = CanGoOn (form_words f) (FormStands f) front

perhaps_goes : (f : Form) (front : List Word) → Goes f front → Goes (perhaps f) front
perhaps_goes f front go = record { line = Some go.line; stands = go.stands; more = go.more; begins = go.begins }

item_goes : (i : Item) (f : Form) (front : List Word) → CanGoOn (item_words i) (ItemStands i) front → Goes (i ⨾ f) front
item_goes i f front go = record {
  line = with_value i f go.line (line_some f);
  stands = stands_put i f go.line (line_some f) go.stands (some_stands f);
  more = go.more ++ form_words f (line_some f);
  begins = words_put i f go.line (line_some f) ∙ (ap (λ (v : List Word). v ++ form_words f (line_some f)) go.begins ∙ append_assoc front go.more (form_words f (line_some f)));
}

rest_goes : (i : Item) (f : Form) (a : ItemValue i) (front : List Word) → ItemStands i a → Goes f front → Goes (i ⨾ f) (item_words i a ++ front)
rest_goes i f a front s go = record {
  line = with_value i f a go.line;
  stands = stands_put i f a go.line s go.stands;
  more = go.more;
  begins = words_put i f a go.line ∙ (ap (λ (v : List Word). item_words i a ++ v) go.begins ∙ sym (append_assoc (item_words i a) front go.more));
}

-- the rest of the line is read after the item
after_item : (i : Item) (f : Form) (a : ItemValue i) (front us : List Word) (w : Word) (e : Stop) → ItemStands i a → StopsAt i a (front ++ w ∷ us) → line_read f (front ++ w ∷ us) ≡ Err e → line_read (i ⨾ f) ((item_words i a ++ front) ++ w ∷ us) ≡ Err e
after_item i f a front us w e s stops h =
    ap (λ (v : List Word). line_read (i ⨾ f) v) (append_assoc (item_words i a) front (w ∷ us))
    ∙ (ap (λ (v : Result (ItemValue i × List Word) Stop). and_then i f (λ left. line_read f left) v) (item_again i a (front ++ w ∷ us) s stops)
    ∙ ap (λ (v : Result (Values f) Stop). valued i f a v) h)

abbrev Fault : (f : Form) → List Word → List Word → Bool → Type 0
Fault f ws rest b = FrontFault (line_read f) (form_words f) (FormStands f) ws rest b

item_fault : (i : Item) (f : Form) (ws rest : List Word) (b : Bool) → FrontFault (item_front i) (item_words i) (ItemStands i) ws rest b → Fault (i ⨾ f) ws rest b
item_fault i f ws rest b r = record {
  front = r.front;
  split = r.split;
  live = item_goes i f r.front r.live;
  always = λ w vs us is. ap (λ (v : Result (ItemValue i × List Word) Stop). and_then i f (λ left. line_read f left) v) (r.always w vs us is);
  named = λ want x plain. item_goes i f (r.front ++ name x ∷ []) (r.named want x plain);
  unnamed = λ not_wanted. let u = r.unnamed not_wanted in record { text = u.text; plain = u.plain; always = λ us. ap (λ (v : Result (ItemValue i × List Word) Stop). and_then i f (λ left. line_read f left) v) (u.always us) };
}

rest_fault : (i : Item) (f : Form) (a : ItemValue i) (ws vs rest : List Word) (b : Bool) → ItemStands i a → ws ≡ item_words i a ++ vs → StopsAt i a vs → Fault f vs rest b → Fault (i ⨾ f) ws rest b
rest_fault i f a ws vs rest b s is stops r =
    let stops' : StopsAt i a (r.front ++ rest) = subst (λ (v : List Word). StopsAt i a v) r.split stops in
    record {
      front = item_words i a ++ r.front;
      split = is ∙ (ap (λ (v : List Word). item_words i a ++ v) r.split ∙ sym (append_assoc (item_words i a) r.front rest));
      live = rest_goes i f a r.front s r.live;
      always = λ w ws' us rest_is.
          let at : StopsAt i a (r.front ++ w ∷ ws') = subst (λ (v : List Word). StopsAt i a (r.front ++ v)) rest_is stops' in
          after_item i f a r.front us w (stop (w ∷ us) b) s (same_head i a r.front ws' us w at) (r.always w ws' us rest_is);
      named = λ want x plain. subst (λ (v : List Word). Goes (i ⨾ f) v) (sym (append_assoc (item_words i a) r.front (name x ∷ []))) (rest_goes i f a (r.front ++ name x ∷ []) s (r.named want x plain));
      unnamed = λ not_wanted. let u = r.unnamed not_wanted in record {
        text = u.text;
        plain = u.plain;
        always = λ us. after_item i f a r.front us (name u.text) (stop (name u.text ∷ us) b) s (name_head i a r.front rest us u.text stops') (u.always us);
      };
    }

abbrev TypesFault : List Word → List Word → Bool → Type 0
TypesFault ws rest b = Fault types ws rest b

-- the fault is inside a type
inside_types : (ws rest : List Word) (b : Bool) → FrontFault (types_front Bar) (types_words Bar) Always ws rest b → TypesFault ws rest b
inside_types ws rest b f = record {
  front = f.front;
  split = f.split;
  live = record { line = f.live.line; stands = tt; more = f.live.more; begins = f.live.begins };
  always = λ w vs us is. ap (λ (r : Result (TypeList × List Word) Stop). alone r) (f.always w vs us is);
  named = λ want x plain. let go = f.named want x plain in record { line = go.line; stands = tt; more = go.more; begins = go.begins };
  unnamed = λ not_wanted. let u = f.unnamed not_wanted in record { text = u.text; plain = u.plain; always = λ us. ap (λ (r : Result (TypeList × List Word) Stop). alone r) (u.always us) };
}

-- something stands behind the types
behind_types : (ts : TypeList) (ws vs rest : List Word) (w : Word) (b : Bool) → (ws ≡ types_words Bar ts ++ w ∷ vs) × Halts (types_machine Bar) (lists.past_types Bar [] ts) (w ∷ vs) → Path (Result TypeList Stop) (Err (stop (w ∷ vs) false)) (Err (stop rest b)) → TypesFault ws rest b
behind_types ts ws vs rest w b said h =
    let parts = stop_parts {B = TypeList} (w ∷ vs) rest false b h in
    let same : false ≡ b = parts.1 in
    let past : (u : Word) (us : List Word) → Halts (types_machine Bar) (lists.past_types Bar [] ts) (u ∷ us) → line_read types (types_words Bar ts ++ u ∷ us) ≡ Err (stop (u ∷ us) b)
    = λ u us halts. ap (λ (r : Result (TypeList × List Word) Stop). alone r) (types_again Bar refl ts (u ∷ us) halts) ∙ ap (λ c. Err (stop (u ∷ us) c)) same in
    record {
      front = types_words Bar ts;
      split = said.0 ∙ ap (λ (us : List Word). types_words Bar ts ++ us) parts.0;
      live = record { line = ts; stands = tt; more = []; begins = sym (append-nil (types_words Bar ts)) };
      always = λ u vs' us is.
          let first : w ≡ u = (let both : w ∷ vs ≡ u ∷ vs' = parts.0 ∙ is in cc) in
          past u us (subst (λ (x : Word). (types_machine Bar).step (lists.past_types Bar [] ts) x ≡ None) first said.1);
      named = λ want. let no = same ∙ want in cc;
      unnamed = λ _. record { text = []; plain = refl; always = λ us. past (name []) us (halts_name (types_machine Bar) ([], type.start) (types_words Bar) (lists.past_types Bar []) (list_reads Bar refl) ts [] us) };
    }

types_fault : (ws rest : List Word) (b : Bool) (r : Result (TypeList × List Word) Stop) → types_front Bar ws ≡ r → alone r ≡ Err (stop rest b) → TypesFault ws rest b
types_fault ws rest b (Ok (ts, [])) e h = cc
types_fault ws rest b (Ok (ts, w ∷ vs)) e h = behind_types ts ws vs rest w b (types_ok Bar refl ws (w ∷ vs) ts e) h
types_fault ws rest b (Err (stop left c)) e h =
    let same : stop left c ≡ stop rest b = cc in
    inside_types ws rest b (types_err Bar refl ws rest b (e ∙ ap (λ (d : Stop). Err d) same))

pub line_err : (f : Form) (ws rest : List Word) (b : Bool) → IsGood f → line_read f ws ≡ Err (stop rest b) → Fault f ws rest b
line_err nothing [] rest b g h = cc
line_err nothing (w ∷ ws) rest b g h =
    let parts = stop_parts {B = Unit {0}} (w ∷ ws) rest false b h in
    let same : false ≡ b = parts.1 in
    record {
      front = [];
      split = parts.0;
      live = record { line = tt; stands = tt; more = []; begins = refl };
      always = λ v vs us is. ap (λ c. Err (stop (v ∷ us) c)) same;
      named = λ want. let no = same ∙ want in cc;
      unnamed = λ _. record { text = []; plain = refl; always = λ us. ap (λ c. Err (stop (name [] ∷ us) c)) same };
    }
line_err (perhaps f) [] rest b g h = cc
line_err (perhaps f) (w ∷ ws) rest b g h =
    let r = line_err f (w ∷ ws) rest b g.1 (present_err (line_read f (w ∷ ws)) (stop rest b) h) in
    record {
      front = r.front;
      split = r.split;
      live = perhaps_goes f r.front r.live;
      always = λ v vs us is. perhaps_always f r.front us v (stop (v ∷ us) b) (r.always v vs us is);
      named = λ want x plain. perhaps_goes f (r.front ++ name x ∷ []) (r.named want x plain);
      unnamed = λ not_wanted. let u = r.unnamed not_wanted in record { text = u.text; plain = u.plain; always = λ us. perhaps_always f r.front us (name u.text) (stop (name u.text ∷ us) b) (u.always us) };
    }
line_err (i ⨾ f) ws rest b g h =
    (elim (item_front i ws) as (λ r. item_front i ws ≡ r → and_then i f (λ left. line_read f left) r ≡ Err (stop rest b) → Fault (i ⨾ f) ws rest b) [
      | Err e ↦ λ is k. let same : e ≡ stop rest b = cc in item_fault i f ws rest b (item_err i ws rest b (is ∙ ap (λ x. Err x) same))
      | Ok p ↦ λ is k.
          let said = item_ok i ws p.1 p.0 is in
          rest_fault i f p.0 ws p.1 rest b said.2 said.0 said.1 (line_err f p.1 rest b g.1 (valued_err i f p.0 (line_read f p.1) (stop rest b) k))
    ]) refl h
line_err (names r) ws rest b g h = all_err (name_text r) (takes_names r) name (MayStand r) (names_sort r) ws rest b h
line_err (numbers l g) ws rest b t h = all_err number_text false number (λ d. Unit {0}) numbers_sort ws rest b h
line_err types ws rest b g h = types_fault ws rest b (types_front Bar ws) refl h
line_err anything ws rest b g h = cc

-- exactly the lines of a form are read, and a fault is the first word that can't follow
pub form_exactly : (f : Form) (ws : List Word) → IsGood f → Exactly (form_words f) (FormStands f) ws (line_read f ws)
form_exactly f ws g = exactness.exactly (line_read f) (form_words f) (FormStands f) (λ v s. line_again f v g s) (λ us v h. line_ok f us v g h) (λ us rest b h. line_err f us rest b g h) ws

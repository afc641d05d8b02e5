-- What a change makes of a responder, and what is written for it.
use Rattle.std.proofs.Common.{◌≡◌, ℕ, ◌<◌, List, [], ◌∷◌, ◌++◌, length, take, refl, sym, ap, ◌∙◌, length-append, arith}
use Rattle.std.specs.Prelude.{Option, None, Some, IfSome, true, false, not, if◌then◌else◌, codes, map, remove}
use Rattle.std.specs.List.{list_any}
use Rattle.std.specs.Str.{bytes_eq}
use Rattle.std.proofs.lemmas.Bool.{true≢false}
use Rattle.std.specs.Option.{option_map}
use Rattle.std.proofs.Math.Seq.{take-append_seam}
use Rattle.std.proofs.lemmas.List.{length-map}
use Rattle.std.proofs.lemmas.List.Edits.{length-remove}
use Rattle.cls_assemble.specs.declared.piece.Piece.{Piece}
use Rattle.cls_assemble.specs.declared.piece.Piece.TheVariants.{Byte}
use Rattle.cls_base.specs.Firsts.{First}
use Rattle.cls_base.specs.Schemas.{OpenType}
use Rattle.cls_engine.specs.Engines.{EngineSeen, seen_as}
use Rattle.cls_filter.specs.Automata.{Automaton}
use Rattle.cls_filter.specs.Lines.{without_leaf}
use Rattle.cls_lexer.specs.Names.{with_text}
use Rattle.cls_library.specs.declared.fault.LibraryKind.{LibraryKind}
use Rattle.cls_library.specs.Libraries.{Library}
use Rattle.cls_library.specs.Refusals.{Adds, Refuses}
use Rattle.cls_query.specs.declared.change.Change.TheVariants.{Add, Remove}
use Rattle.cls_query.specs.ChangeErrors.{change_errors}
use Rattle.cls_query.specs.QueryErrors.{is_absent}
use Rattle.cls_repo.specs.EndFaults.{library_words}
use Rattle.cls_replies.specs.Changing.{IsMisread, Makes, without}
use Rattle.cls_replies.specs.Changing as changing
use Rattle.cls_replies.specs.Responder.{Responder, IsResponder}
use Rattle.cls_replies.specs.Texts.{error_line, reply_line}

-- the line has an error
pub misreads : (s m : Responder) (line text : List ℕ) (o : Option (List ℕ)) → IfSome o (λ words. First (change_errors s.components line) words) → option_map error_line o ≡ Some text → m ≡ s
    → IsMisread s line text m
misreads s m line text None h e same = let k : None ≡ Some text = e in absurd (cc)
misreads s m line text (Some words) h e same =
    let k : Some (error_line words) ≡ Some text = e in
    record { words = words; first = h; written = (let t : text ≡ error_line words = cc in t); same = same }

-- a name that is new goes last
pub with_new : (texts : List (List ℕ)) (x : List ℕ) → is_absent texts x ≡ true → with_text texts x ≡ texts ++ x ∷ []
with_new texts x e =
    (elim (list_any (bytes_eq x) texts) as (λ b. not b ≡ true → (if b then texts else texts ++ x ∷ []) ≡ texts ++ x ∷ []) [
      | true ↦ λ k. absurd (true≢false (sym k))
      | false ↦ λ k. refl
    ]) e

-- what was put last is cut off again
pub cut_back : {A : Type 0} (xs ys : List A) (y : A) (n : ℕ) → n ≡ length xs → ys ≡ xs ++ y ∷ [] → take n ys ≡ xs
cut_back xs ys y n e f = (λ j. take (e j) (f j)) ∙ take-append_seam xs (y ∷ [])

-- A COMPONENT COMES
module _ (s : Responder) (x : List ℕ) (t : OpenType) where
  abbrev now : List (List ℕ) → List (List Piece) → EngineSeen → Responder
  now components templates engine = record s { components = components; templates = templates; engine = engine }

  pub makes_added : (components : List (List ℕ)) (templates : List (List Piece)) (engine : EngineSeen) (text : List ℕ) → components ≡ s.components ++ x ∷ []
      → templates ≡ s.templates ++ map Byte x ∷ [] → Adds s.engine.library.taxonomy s.kinds t s.engine.library engine.library → engine.costs ≡ s.engine.costs ++ 1 ∷ []
      → engine.options ≡ s.engine.options → text ≡ reply_line (codes "added") → Makes s (Add x t) text (now components templates engine)
  makes_added components templates engine text e f adds g h w =
      changing.Makes.added x t engine.library refl adds w (λ j. now (e j) (f j) (seen_as engine.library (g j) (h j)))

  pub makes_refused : (s' : Responder) (kind : LibraryKind) (o : Option (List ℕ)) (text : List ℕ) → Refuses s.engine.library s.kinds t kind → library_words s.variables x kind ≡ o
      → option_map (λ (words : List ℕ). error_line (codes "refused " ++ words)) o ≡ Some text → s' ≡ s → Makes s (Add x t) text s'
  makes_refused s' kind None text refuses w e same = let k : None ≡ Some text = e in absurd (cc)
  makes_refused s' kind (Some words) text refuses w e same =
      let k : Some (error_line (codes "refused " ++ words)) ≡ Some text = e in
      changing.Makes.refused x t kind words refl refuses w (let is : text ≡ error_line (codes "refused " ++ words) = cc in is) same

  -- it has a name and a template
  pub responder_added : IsResponder s → (components : List (List ℕ)) (templates : List (List Piece)) (engine : EngineSeen) → components ≡ s.components ++ x ∷ []
      → templates ≡ s.templates ++ map Byte x ∷ [] → Adds s.engine.library.taxonomy s.kinds t s.engine.library engine.library → IsResponder (now components templates engine)
  responder_added is components templates engine e f adds =
      let long = ap (λ (l : Library). length l.components) adds.added in
      let more = length-append s.engine.library.components (adds.component ∷ []) in
      let names = ap (λ (xs : List (List ℕ)). length xs) e in
      let named = length-append s.components (x ∷ []) in
      let texts = ap (λ (xs : List (List Piece)). length xs) f in
      let written = length-append s.templates (map Byte x ∷ []) in
      let a = is.named in
      let b = is.written in
      record { named = omega (arith, long, more, names, named, a); written = omega (arith, long, more, texts, written, b); filtered = is.filtered; opened = is.opened }

-- A COMPONENT GOES
module _ (s : Responder) (x : ℕ) where
  abbrev left : List (List ℕ) → List (List Piece) → List Automaton → EngineSeen → Responder
  left components templates filters engine = record s { components = components; templates = templates; filters = filters; engine = engine }

  pub makes_dropped : (components : List (List ℕ)) (templates : List (List Piece)) (filters : List Automaton) (engine : EngineSeen) (text : List ℕ) → components ≡ remove s.components x
      → templates ≡ remove s.templates x → filters ≡ map (λ (a : Automaton). without_leaf a x) s.filters
      → engine ≡ seen_as (without s.engine.library x) (remove s.engine.costs x) s.engine.options → text ≡ reply_line (codes "dropped")
      → Makes s (Remove x) text (left components templates filters engine)
  makes_dropped components templates filters engine text e f g h w = changing.Makes.dropped x refl w (λ j. left (e j) (f j) (g j) (h j))

  pub responder_dropped : IsResponder s → x < length s.components → (components : List (List ℕ)) (templates : List (List Piece)) (filters : List Automaton) (engine : EngineSeen)
      → components ≡ remove s.components x → templates ≡ remove s.templates x → filters ≡ map (λ (a : Automaton). without_leaf a x) s.filters
      → engine ≡ seen_as (without s.engine.library x) (remove s.engine.costs x) s.engine.options → IsResponder (left components templates filters engine)
  responder_dropped is there components templates filters engine e f g h =
      let a = is.named in
      let b = is.written in
      let long = ap (λ (z : EngineSeen). length z.library.components) h in
      let less = length-remove s.engine.library.components x (omega (arith, a, there)) in
      let names = ap (λ (xs : List (List ℕ)). length xs) e in
      let fewer = length-remove s.components x there in
      let texts = ap (λ (xs : List (List Piece)). length xs) f in
      let shorter = length-remove s.templates x (omega (arith, a, b, there)) in
      let same = ap (λ (xs : List Automaton). length xs) g ∙ length-map s.filters (λ (a : Automaton). without_leaf a x) in
      record { named = omega (arith, long, less, names, fewer, a); written = omega (arith, long, less, texts, shorter, b); filtered = is.filtered ∙ sym same; opened = is.opened }

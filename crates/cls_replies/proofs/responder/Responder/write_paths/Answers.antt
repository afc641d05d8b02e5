use Rattle.std.proofs.Common.{◌≡◌, ◌∙◌, ◌++◌, [], List, ℕ, ap, sym, drop, refl, subst, string_bytes}
use Rattle.cls_replies.specs.declared.printing.Left.TheVariants as left
use Rattle.cls_replies.specs.declared.printing.Lines.TheVariants as lines
use Rattle.cls_replies.specs.Printing.{behind}
use Rattle.cls_replies.specs.Rests.{IsRest}
use Rattle.cls_replies.specs.Responder.{Responder, responder_of}
use Rattle.cls_replies.specs.Steps.{held_lines}
use Rattle.cls_library.specs.Libraries.{Library, paths_at}
use Rattle.cls_path.specs.Paths.{listed}
use Rattle.cls_replies.specs.Texts.{paths_text}
use Rattle.cls_replies.proofs.Portions.{some_text, behind-listed}
use Rattle.cls_replies.proofs.responder.Responder.write_paths.Goals as goal

pub returns-in-Some : goal.returns-in-Some
returns-in-Some c =
    let i = c.self.inside in
    let s = responder_of i.names i.variables i.components i.kinds i.templates i.filter_names i.filters i.engine (held_lines i.held) in
    let new = string_bytes c.print_paths.new.text in
    let on = rw c.in-Some.is at c.in_ok-next.ensures.lines in
    let paths = c.paths-paths.result.now in
    let at : (place : ℕ) → paths_text i.names (listed (drop place paths)) ≡ paths_text i.names (behind place (paths_at i.engine.library c.args.component)) = λ place.
    ap (paths_text i.names) (sym (behind-listed place paths) ∙ ap (behind place) (c.paths-paths.ensures ∙ ap (λ (l : Library). paths_at l c.args.component) c.library.ensures)) in
    let on_paths : new ++ paths_text i.names (behind c.in-Some.place (paths_at i.engine.library c.args.component)) ≡ string_bytes c.args.text.now ++ paths_text i.names (behind c.args.place (paths_at i.engine.library c.args.component)) =
    ap (λ (v : List ℕ). new ++ v) (sym (at c.in-Some.place)) ∙ (on ∙ ap (λ (v : List ℕ). string_bytes c.args.text.now ++ v) (at c.args.place)) in
    let full = rw c.in-Some.is at c.in_ok-next.ensures.full in
    subst (λ (z : Responder). IsRest z (paths_text z.names (behind c.args.place (paths_at z.engine.library c.args.component))) (string_bytes c.args.text.now) new (left.Lines (lines.Paths c.args.component c.in-Some.place))) c.self.view_is
    (record { lines = on_paths; full = some_text new _ full; printable = (rw (← c.self.view_is) at c.requires) })

pub returns-in-None : goal.returns-in-None
returns-in-None c =
    let i = c.self.inside in
    let s = responder_of i.names i.variables i.components i.kinds i.templates i.filter_names i.filters i.engine (held_lines i.held) in
    let new = string_bytes c.print_paths.new.text in
    let on = rw c.in-None.is at c.in_ok-next.ensures.lines in
    let paths = c.paths-paths.result.now in
    let at : paths_text i.names (listed (drop c.args.place paths)) ≡ paths_text i.names (behind c.args.place (paths_at i.engine.library c.args.component)) =
    ap (paths_text i.names) (sym (behind-listed c.args.place paths) ∙ ap (behind c.args.place) (c.paths-paths.ensures ∙ ap (λ (l : Library). paths_at l c.args.component) c.library.ensures)) in
    let on_paths : new ++ [] ≡ string_bytes c.args.text.now ++ paths_text i.names (behind c.args.place (paths_at i.engine.library c.args.component)) =
    on ∙ ap (λ (v : List ℕ). string_bytes c.args.text.now ++ v) at in
    subst (λ (z : Responder). IsRest z (paths_text z.names (behind c.args.place (paths_at z.engine.library c.args.component))) (string_bytes c.args.text.now) new left.Nothing) c.self.view_is
    (record { lines = on_paths; full = λ none. refl; printable = tt })

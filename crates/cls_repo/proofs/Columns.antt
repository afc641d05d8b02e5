-- Lists that are filled from another one, element by element.
use Rattle.std.proofs.Common.{◌≡◌, List, [], ◌∷◌, ◌++◌, map, ap, sym, ◌∙◌, append-nil, append_assoc}
use Rattle.cls_base.specs.Schemas.{schema_of}
use Rattle.cls_repo.specs.declared.repository.Columns as code
use Rattle.cls_repo.specs.Drafts.{Component}
use Rattle.cls_repo.specs.Written.{AreColumns}

-- an element goes over
pub moved : {A B : Type 0} (f : A → B) (all out out' : List B) (left left' : List A) (x : A) → left ≡ x ∷ left' → out' ≡ out ++ f x ∷ [] → out ++ map f left ≡ all → out' ++ map f left' ≡ all
moved f all out out' left left' x is more so_far =
    ap (λ ys. ys ++ map f left') more ∙ (append_assoc out (f x ∷ []) (map f left') ∙ (ap (λ xs. out ++ map f xs) (sym is) ∙ so_far))

-- some components went over, and the others are left
pub record AreFilled (all left : List Component) (columns : code.Columns) : Type 0 where
  pub schemas : map schema_of columns.schemas.items ++ map (λ c. c.schema) left ≡ map (λ c. c.schema) all
  pub lines : columns.lines.items ++ map (λ c. c.line) left ≡ map (λ c. c.line) all
  pub templates : columns.templates.items ++ map (λ c. c.template) left ≡ map (λ c. c.template) all
  pub costs : columns.costs.items ++ map (λ c. c.cost) left ≡ map (λ c. c.cost) all

-- no component is left
pub all_filled : (all left : List Component) (columns : code.Columns) → left ≡ [] → AreFilled all left columns → AreColumns all columns
all_filled all left columns none f =
    record {
      schemas = ended (λ c. c.schema) (map schema_of columns.schemas.items) f.schemas;
      lines = ended (λ c. c.line) columns.lines.items f.lines;
      templates = ended (λ c. c.template) columns.templates.items f.templates;
      costs = ended (λ c. c.cost) columns.costs.items f.costs;
    }
  where
    ended : {B : Type 0} (g : Component → B) (out : List B) → out ++ map g left ≡ map g all → out ≡ map g all
    ended g out e = sym (append-nil out) ∙ (ap (λ cs. out ++ map g cs) (sym none) ∙ e)

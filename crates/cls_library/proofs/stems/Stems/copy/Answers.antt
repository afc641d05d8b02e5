use Rattle.cls_library.proofs.stems.Stems.copy.Goals as goal

pub returns : goal.returns
returns c = λ ps h. (c.in_ok-pairs.ensures ps h.0, c.in_ok-triples.ensures ps h.1)

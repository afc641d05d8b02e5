-- What the code's stops say.
use Rattle.cls_syntax.specs.declared.stop.Stop.{Stop}
use Rattle.cls_syntax.specs.Faults as faults
use Rattle.cls_lexer.specs.Words.{words}

-- the stop of the tokens as the stop of their words
abbrev pub stop_of : Stop → faults.Stop
stop_of s = faults.stop (words s.rest.now) s.wants_name

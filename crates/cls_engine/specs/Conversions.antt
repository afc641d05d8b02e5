-- What the faults of lower crates become.
use Rattle.cls_table.specs.declared.fault.ExpandFault.{ExpandFault}
use Rattle.cls_table.specs.declared.fault.ExpandFault.TheVariants as expand
use Rattle.cls_enum.specs.declared.fault.PageFault.{PageFault}
use Rattle.cls_enum.specs.declared.fault.PageFault.TheVariants as page
use Rattle.cls_filtered.specs.declared.fault.FilterFault.{FilterFault}
use Rattle.cls_filtered.specs.declared.fault.FilterFault.TheVariants as filter
use Rattle.cls_grammar.specs.declared.fault.GrammarFault.{GrammarFault}
use Rattle.cls_grammar.specs.declared.fault.GrammarFault.TheVariants as grammar
use Rattle.cls_engine.specs.declared.fault.EngineFault.{EngineFault}
use Rattle.cls_engine.specs.declared.fault.EngineFault.TheVariants.{TooLarge, Wide, FilterTooLarge, TooManyTerms, OutOfMemory}

abbrev pub of_expand : ExpandFault → EngineFault
of_expand expand.TooLarge = TooLarge
of_expand expand.OutOfMemory = OutOfMemory

abbrev pub of_grammar : GrammarFault → EngineFault
of_grammar (grammar.Wide goal) = Wide goal
of_grammar grammar.OutOfMemory = OutOfMemory

abbrev pub of_filter : FilterFault → EngineFault
of_filter filter.OutOfMemory = OutOfMemory
of_filter filter.TooManyRules = FilterTooLarge

abbrev pub of_page : PageFault → EngineFault
of_page page.OutOfMemory = OutOfMemory
of_page page.TooManyTerms = TooManyTerms

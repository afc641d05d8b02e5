use Rattle.cls_library.proofs.stems.StemTable.copy.Goals as goal

pub returns : goal.returns
returns c = λ ps h. record {
  some = h.some;
  chained = rw (c.in_ok-chains.ensures.firsts, c.in_ok-chains.ensures.next) h.chained;
}

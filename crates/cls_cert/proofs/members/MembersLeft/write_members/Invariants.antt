use Rattle.std.proofs.Common.{◌≡◌, ◌<◌, ◌++◌, [], length, string_bytes}
use Rattle.std.specs.Prelude.{None}
use Rattle.cls_cert.specs.Left.{AreMembersLeft, block_left, named_members_left}
use Rattle.cls_cert.proofs.members.MembersLeft.write_members.Given as goal

abbrev pub invariant-loop-number : goal.invariant-loop-number
invariant-loop-number l = record {
  left : AreMembersLeft l.lib l.named.grammar.now l.self;
  lines : string_bytes l.text ++ named_members_left l.named l.lib l.self ≡ string_bytes l.fn.text ++ named_members_left l.named l.lib l.fn.self;
  full : length (string_bytes l.text) < l.enough → (block_left l.self.block ≡ []) × (l.self.from ≡ None);
  next : l.self.next ≡ l.number;
}

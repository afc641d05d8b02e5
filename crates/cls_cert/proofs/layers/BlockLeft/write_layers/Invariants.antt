use Rattle.std.proofs.Common.{◌≡◌, ◌<◌, ◌++◌, [], length, string_bytes}
use Rattle.cls_cert.specs.Left.{IsBlockLeft, block_left, sets_left}
use Rattle.cls_cert.proofs.layers.BlockLeft.write_layers.Given as goal

abbrev pub invariant-loop-front : goal.invariant-loop-front
invariant-loop-front l = record {
  left : IsBlockLeft l.self;
  lines : string_bytes l.text ++ block_left l.self ≡ string_bytes l.fn.text ++ block_left l.fn.self;
  full : length (string_bytes l.text) < l.enough → sets_left l.self ≡ [];
  front : l.self.front ≡ l.front;
  size : length l.self.families.items ≡ l.front-end;
}

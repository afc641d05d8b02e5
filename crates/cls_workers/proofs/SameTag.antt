-- Tags that are known to be one.
use Rattle.std.proofs.Common.{◌≡◌, Some}

pub same-tag : {A : Type 0} (x y : A) → Some x ≡ Some y → x ≡ y
same-tag x y e = cc

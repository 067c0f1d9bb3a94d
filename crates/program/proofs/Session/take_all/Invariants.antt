-- The bytes so far are taken, and leave this much of a line.
use Rattle.std.proofs.Common.{◌≡◌, length, take}
use Rattle.text.specs.Text.{written}
use Rattle.program.specs.Memory.{store_in}
use Rattle.program.specs.Lines.{Fed}
use Rattle.program.proofs.Session.take_all.Given as goal

abbrev pub invariant-loop-b : goal.invariant-loop-b
invariant-loop-b g l = record {
  same : l.self.line.out.ghost_name ≡ l.initial.self.line.out.ghost_name;
  room : length l.self.line.out.now ≡ length l.initial.self.line.out.now;
  fed : Fed (length l.initial.self.line.out.now) (store_in l.initial.self.memory) (written l.initial.self.line) (take l.b-index l.s) (store_in l.self.memory) (written l.self.line);
}

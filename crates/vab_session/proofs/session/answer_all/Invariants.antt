use Rattle.std.proofs.Common.{◌≡◌, ◌++◌, List, [], ℕ, codes}
use Rattle.vab_disk.specs.Disk.{NoFewer}
use Rattle.vab_fbtcp.specs.declared.event.Place.TheVariants.{Length}
use Rattle.vab_device.specs.Kept.{IsDevice}
use Rattle.vab_device.specs.Reading.{IsIn, Represents}
use Rattle.vab_commands.specs.Touched.{ChangesBy, FollowsBy}
use Rattle.vab_exchanges.specs.Reading.{stands_at, rest_of, beyond_of, room_of, total_of, most_of}
use Rattle.vab_exchanges.specs.Reading.{IsFed}
use Rattle.vab_exchanges.proofs.Progress.{Progress}
use Rattle.vab_session.specs.Sparing.{IsPlain}
use Rattle.vab_session.specs.Responses.{machine}
use Rattle.vab_session.specs.Served.{kept_on}
use Rattle.vab_session.proofs.WrittenLaws.{HasWritten}
use Rattle.vab_session.proofs.session.answer_all.Given as goal

abbrev pub invariant-loop-next : goal.invariant-loop-next
invariant-loop-next g l = record {
  place : stands_at l.reader ≡ Length;
  fed : IsFed l.reader;
  most : most_of l.reader ≡ most_of l.fn.reader;
  count : g.P.Disk.is_modelled
      → total_of l.reader (g.P.Disk.input_left l.p)
      ≡ total_of l.fn.reader (g.P.Disk.input_left l.fn.p);
  beyond : g.P.Disk.is_modelled
      → beyond_of l.reader (g.P.Disk.input_left l.p)
      ≡ beyond_of l.fn.reader (g.P.Disk.input_left l.fn.p);
  size : g.P.Disk.size l.p ≡ g.P.Disk.size l.fn.p;
  device : IsDevice l.kept.device (g.P.Disk.size l.fn.p);
  follows : g.P.Disk.is_modelled
      → FollowsBy l.fn.kept.device
      (IsPlain l.fn.turns (g.P.Disk.told l.fn.p) (rest_of l.fn.reader (g.P.Disk.input_left l.fn.p)))
      l.kept.device;
  stands : g.P.Disk.is_modelled
      → Represents l.kept.device (g.P.Disk.size l.fn.p) (g.P.Disk.seen l.p);
  changes : g.P.Disk.is_modelled
      → ChangesBy g.P.Disk l.fn.kept.device
      (IsPlain l.fn.turns (g.P.Disk.told l.fn.p) (rest_of l.fn.reader (g.P.Disk.input_left l.fn.p)))
      l.fn.p l.p;
  counts : NoFewer (g.P.Disk.faults l.fn.p) (g.P.Disk.faults l.p);
  steady : g.P.Disk.faults l.p ≡ g.P.Disk.faults l.fn.p;
  progress : g.P.Disk.is_modelled
      → (told : List ℕ)
      → g.P.Disk.told l.fn.p ≡ told ++ codes "FB01"
      → Progress (machine l.fn.turns) (IsIn (g.P.Disk.size l.fn.p)) g.P.Disk
      (rest_of l.fn.reader (g.P.Disk.input_left l.fn.p))
      (beyond_of l.fn.reader (g.P.Disk.input_left l.fn.p))
      (kept_on l.fn.kept (g.P.Disk.seen l.fn.p))
      told l.fn.p l.p
      (rest_of l.reader (g.P.Disk.input_left l.p)) []
      (kept_on l.kept (g.P.Disk.seen l.p));
  written : g.P.Disk.is_modelled
      → (told : List ℕ)
      → g.P.Disk.told l.fn.p ≡ told ++ codes "FB01"
      → HasWritten g.P.Disk l.fn.turns (g.P.Disk.size l.fn.p) l.fn.kept.device
      (kept_on l.fn.kept (g.P.Disk.seen l.fn.p))
      (rest_of l.fn.reader (g.P.Disk.input_left l.fn.p))
      l.kept.device (kept_on l.kept (g.P.Disk.seen l.p))
      (rest_of l.reader (g.P.Disk.input_left l.p))
      l.fn.p l.p;
}

abbrev pub decreases-loop-next : goal.decreases-loop-next
decreases-loop-next g l = room_of l.reader

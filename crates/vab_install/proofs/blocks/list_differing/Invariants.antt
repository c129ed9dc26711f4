use Rattle.std.proofs.Common.{◌≡◌, ◌≤◌, length, IfSome, unwrap_or, [], option_copied}
use Rattle.vab_disk.specs.Calls.{OnlyReads}
use Rattle.vab_space.specs.Differing.{chunk_differs}
use Rattle.vab_space.proofs.DifferingLaws.{passing}
use Rattle.vab_install.specs.Differing.{differs_at, AscendsBelow}
use Rattle.vab_install.proofs.blocks.list_differing.Given as goal

abbrev pub invariant-loop-number : goal.invariant-loop-number
invariant-loop-number g l = record {
  count : g.D.Disk.is_modelled
      → l.count
      ≡ length
      (passing
      (chunk_differs l.chunk
      (differs_at (unwrap_or (option_copied l.base) []) (g.D.Disk.seen l.fn.d) l.image) l.blocks)
      l.number);
  exact : g.D.Disk.is_modelled
      → IfSome l.chunks
      (λ v. v.items
      ≡ passing
      (chunk_differs l.chunk
      (differs_at (unwrap_or (option_copied l.base) []) (g.D.Disk.seen l.fn.d) l.image) l.blocks)
      l.number);
  most : l.count ≤ l.number;
  lists : IfSome l.chunks (λ v. AscendsBelow l.number l.most l.count v.items);
  reads : OnlyReads g.D.Disk l.fn.d l.d;
  steady : g.D.Disk.faults l.d ≡ g.D.Disk.faults l.fn.d;
}

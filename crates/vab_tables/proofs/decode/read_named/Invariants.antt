use Rattle.std.proofs.Common.{◌≡◌, ◌-◌, ◌&&◌, not, [], length}
use Rattle.vab_tables.specs.Reading.{entries_in}
use Rattle.vab_tables.specs.Rules.{is_named}
use Rattle.vab_tables.proofs.NameSets.{Knows}
use Rattle.vab_tables.proofs.decode.read_named.Given as goal

abbrev pub invariant-loop-index : goal.invariant-loop-index
invariant-loop-index g l =
    let name = g.E.Named.text_of in
    let passes = λ (earlier : _) (e : _). g.R.Rules.passing l.rules e
    && not (is_named name earlier (name e)) in
    let entries =
    entries_in l.kind g.E.Entry.SIZE g.E.Entry.reading passes l.entries.bytes.now in
    record {
      count : length l.all.items ≡ l.index;
      rest : entries (l.entries.count - l.index) l.all.items ≡ entries l.entries.count [];
      names : Knows name l.names.keys l.all.items;
    }

use Rattle.std.proofs.Common.{List, Bool, length, sym, ◌∙◌, ap, subst, arith}
use Rattle.vab_exceptions.specs.declared.area.Exception.{Exception}
use Rattle.vab_space.specs.Chunks.{new_chunk_of}
use Rattle.std.specs.List.{prefix_len}
use Rattle.vab_store.specs.Free.{is_set, AreTaken}
use Rattle.vab_store.specs.Setting.{IsLowestFree}
use Rattle.vab_store.proofs.FreeLaws.{first_within, first_free, new_chunk_most}
use Rattle.vab_store.proofs.view.StoreView.free_chunk.Goals as goal

pub new_chunk-requires : goal.new_chunk-requires
new_chunk-requires c =
    let es : List Exception = c.args.self.now in
    let flags : List Bool = c.in_ok-taken.taken.items in
    let all : AreTaken c.args.chunk es (length es) flags =
    subst (λ (l : List Exception). AreTaken c.args.chunk l (length l) flags)
    (c.deref.ensures.value ∙ c.self.view_is) c.in_ok-taken.ensures in
    omega (
      arith,
      c.requires.small,
      first_within c.args.chunk es flags all,
      c.first_clear.ensures ∙ ap (prefix_len is_set) c.deref-2.ensures.value,
    )

pub returns-clause-lowest : goal.returns-clause-lowest
returns-clause-lowest c =
    let es : List Exception = c.args.self.now in
    let flags : List Bool = c.in_ok-taken.taken.items in
    let all : AreTaken c.args.chunk es (length es) flags =
    subst (λ (l : List Exception). AreTaken c.args.chunk l (length l) flags)
    (c.deref.ensures.value ∙ c.self.view_is) c.in_ok-taken.ensures in
    subst (IsLowestFree c.args.chunk es)
    (sym (c.new_chunk.ensures
    ∙ ap (new_chunk_of c.args.chunk)
    (c.first_clear.ensures ∙ ap (prefix_len is_set) c.deref-2.ensures.value)))
    (first_free c.args.chunk es flags all c.requires.chunks.data_chunk)

pub returns-clause-most : goal.returns-clause-most
returns-clause-most c =
    let es : List Exception = c.args.self.now in
    let flags : List Bool = c.in_ok-taken.taken.items in
    let all : AreTaken c.args.chunk es (length es) flags =
    subst (λ (l : List Exception). AreTaken c.args.chunk l (length l) flags)
    (c.deref.ensures.value ∙ c.self.view_is) c.in_ok-taken.ensures in
    omega (
      arith,
      c.new_chunk.ensures,
      new_chunk_most c.args.chunk c.first_clear.result (length es)
          (omega (
            arith,
            first_within c.args.chunk es flags all,
            c.first_clear.ensures ∙ ap (prefix_len is_set) c.deref-2.ensures.value,
          )),
    )

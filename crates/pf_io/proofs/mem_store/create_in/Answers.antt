use Rattle.std.proofs.Common.{◌≡◌, [], ◌∷◌, ◌++◌, length, Some, None, sym, ◌∙◌, ap, rules}
use Rattle.std.specs.List.{position}
use Rattle.pf_io.specs.MemoryStore.{NamedBytes}
use Rattle.pf_io.proofs.mem_store.create_in.Goals as goal
use Rattle.pf_io.proofs.FilesByName.{named, file, place_is, name_there, place_rewritten, file_rewritten, contents_rewritten, place_added, file_added, contents_added}

-- the file that is there is emptied
there : (c : goal.After-files-1) → position (named c.args.name.now) c.args.files.now.items ≡ Some c.in-Some.i
there c = rw (← c.deref.ensures.value) (sym c.in-Some.ensures)

emptied : (c : goal.After-files-1) → c.clear.new.self ≡ file c.args.name.now []
emptied c =
    c.clear.ensures
    ∙ ap (λ (f : NamedBytes). record f { bytes = [] }) c.index_mut.ensures.value
    ∙ ap (λ name. file name []) (name_there _ _ _ _ (there c))

pub returns-in-Some-clause-first : goal.returns-in-Some-clause-first
returns-in-Some-clause-first c = rw (emptied c) (place_rewritten _ _ _ [] (there c))

pub returns-in-Some-clause-named : goal.returns-in-Some-clause-named
returns-in-Some-clause-named c = rw (emptied c) (file_rewritten _ _ _ (place_is _ _ _ (there c)).within)

pub returns-in-Some-clause-contents : goal.returns-in-Some-clause-contents
returns-in-Some-clause-contents c = rw (emptied c) (contents_rewritten _ _ _ [] (there c))

-- no file is there, and one is added
none : (c : goal.In_ok-push) → position (named c.args.name.now) c.args.files.now.items ≡ None
none c = search rules

added : (c : goal.In_ok-push) → c.push.new.self.items ≡ c.args.files.now.items ++ file c.args.name.now [] ∷ []
added c = search rules

last : (c : goal.In_ok-push) → c.len-i.result ≡ length c.args.files.now.items
last c = search rules

pub returns-clause-first : goal.returns-clause-first
returns-clause-first c = rw (added c, last c) (place_added _ _ [] (none c))

pub returns-clause-named : goal.returns-clause-named
returns-clause-named c = rw (added c, last c) (file_added c.args.files.now.items (file c.args.name.now []))

pub returns-clause-contents : goal.returns-clause-contents
returns-clause-contents c = rw (added c) (contents_added _ _ [] (none c))

-- The entries of lists, counted list by list.
use Rattle.std.proofs.Common.{◌≡◌, ℕ, ◌+◌, ◌<◌, Bool, cond, List, [], ◌∷◌, ◌++◌, length, get_or, map, take, Some, slice_get, option_map, refl, sym, ◌∙◌, ap}
use Rattle.std.specs.List.{count_by}
use Rattle.std.proofs.lemmas.List.{take_more, append-nil, get_or_default}
use Rattle.std.proofs.lemmas.List.Concat.{flat_map-append}
use Rattle.std.proofs.lemmas.List.Sums.{sum_by-append}
use Rattle.std.proofs.lemmas.Option.{slice_get-map, slice_get_read}
use Rattle.pf_model.specs.declared.entry.Entry.{Entry}
use Rattle.group_lists.specs.Whole.{GroupList}
use Rattle.tree_phase.specs.Counts.{all_entries}

abbrev entries_of : GroupList → List Entry
entries_of l = l.entries

no_list : GroupList
no_list = record { span = record { first = 0; len = 0 }; bodies = []; entries = [] }

-- what is read of the lists' entries stands in one of them
list_at : (lists : List GroupList) (n : ℕ) (entries : List Entry) → n < length lists → slice_get (map entries_of lists) n ≡ Some entries → (l : GroupList) × (get_or lists n l ≡ l) × (l.entries ≡ entries)
list_at lists n entries within got =
    let l = get_or lists n no_list in
    let same = get_or_default lists n l no_list within in
    let read : slice_get (map entries_of lists) n ≡ Some l.entries =
    slice_get-map entries_of lists n ∙ ap (option_map entries_of) (slice_get_read lists (length lists) n l refl within (sym same)) in
    let both : Some l.entries ≡ Some entries = sym read ∙ got in
    (l, same, cc)

-- the entries of one list more
entries_more : (lists : List GroupList) (n : ℕ) (entries : List Entry) → n < length lists → slice_get (map entries_of lists) n ≡ Some entries → all_entries (take (n + 1) lists) ≡ all_entries (take n lists) ++ entries
entries_more lists n entries within got =
    let here = list_at lists n entries within got in
    ap all_entries (take_more lists n here.0 within) ∙ flat_map-append entries_of (take n lists) (get_or lists n here.0 ∷ [])
    ∙ ap (λ (l : GroupList). all_entries (take n lists) ++ (l.entries ++ [])) here.1
    ∙ ap (λ (es : List Entry). all_entries (take n lists) ++ es) (append-nil here.0.entries ∙ here.2)

pub counted_more : (test : Entry → Bool) (lists : List GroupList) (n : ℕ) (entries : List Entry) (count more : ℕ) → n < length lists → slice_get (map (λ l. l.entries) lists) n ≡ Some entries → count ≡ count_by test (all_entries (take n lists)) → more ≡ count_by test entries → count + more ≡ count_by test (all_entries (take (n + 1) lists))
counted_more test lists n entries count more within got counted here =
    let split = sum_by-append (λ (e : Entry). cond (test e) 1 0) (all_entries (take n lists)) entries in
    (λ k. counted k + here k) ∙ sym (ap (count_by test) (entries_more lists n entries within got) ∙ split)

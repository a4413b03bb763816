-- The journals of threads, one of which made a turn.
use Rattle.cal_run.proofs.Common.{◌≡◌, ℕ, List, Some, sym, ap, ◌∙◌, option_map, slice_get, set, map-set, slice_get-map, Entry, journals_of, Worker}

-- the journal at a thread's place
pub journal_at_place : (workers : List Worker) (k : ℕ) (worker : Worker) → slice_get workers k ≡ Some worker → slice_get (journals_of workers) k ≡ Some worker.thread.journal
journal_at_place workers k worker at = slice_get-map (λ (w : Worker). w.thread.journal) workers k ∙ ap (option_map (λ (w : Worker). w.thread.journal)) at

-- with what its turn added
pub journals_after : (workers : List Worker) (k : ℕ) (is : Worker) (journal : List Entry) → is.thread.journal ≡ journal →
    set (journals_of workers) k journal ≡ journals_of (set workers k is)
journals_after workers k is journal same = ap (λ j. set (journals_of workers) k j) (sym same) ∙ sym (map-set (λ (w : Worker). w.thread.journal) workers k is)

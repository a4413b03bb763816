-- A journal and its front up to a publication.
use Rattle.cal_linear.proofs.Common.{◌≡◌, ℕ, ◌+◌, ◌<◌, ◌≤◌, zero, suc, List, [], ◌∷◌, ◌++◌, length, refl, sym, ap, ◌∙◌, arith, length-append, slice_get, filter_map-append, page_of, taken-all, Entry, Arrived, Took, Stole, Served, Yielded, Published, state_after, record_in, records_of, command_in, commands_of, up_to, past, still_after, slice_get_front}

-- the front and what is left of it are the whole
pub cut_whole : (n : ℕ) (xs : List Entry) → up_to n xs ++ past n xs ≡ xs
cut_whole zero xs = refl
cut_whole (suc n) [] = refl
cut_whole (suc n) (x ∷ xs) = ap (λ l. x ∷ l) (cut_whole (still_after x n) xs)

still_adds : (x : Entry) (m d n : ℕ) → suc n ≡ suc m + d → still_after x n ≡ still_after x m + d
still_adds (Arrived r) m d n e = e
still_adds (Took k c) m d n e = e
still_adds (Stole from id) m d n e = e
still_adds (Served id) m d n e = e
still_adds Yielded m d n e = e
still_adds (Published k r) m d n e = omega (arith, e)

-- a front of a front's rest goes on where it ends
pub cut_more : (m d n : ℕ) (xs : List Entry) → n ≡ m + d → up_to m xs ++ up_to d (past m xs) ≡ up_to n xs
cut_more zero d n xs e = ap (λ k. up_to k xs) (let same : d ≡ n = omega (arith, e) in same)
cut_more (suc m) d zero xs e = absurd (omega (arith, e))
cut_more (suc m) zero (suc n) [] e = refl
cut_more (suc m) (suc d) (suc n) [] e = refl
cut_more (suc m) d (suc n) (x ∷ xs) e = ap (λ l. x ∷ l) (cut_more (still_after x m) d (still_after x n) xs (still_adds x m d n e))

-- the n-th publication ends a front with n records
pub cut_records : (n : ℕ) (xs : List Entry) → n ≤ length (records_of xs) → length (records_of (up_to n xs)) ≡ n
cut_records zero xs le = refl
cut_records (suc n) [] le = absurd (omega (arith, le))
cut_records (suc n) (Arrived r ∷ xs) le = cut_records (suc n) xs le
cut_records (suc n) (Took k c ∷ xs) le = cut_records (suc n) xs le
cut_records (suc n) (Stole from id ∷ xs) le = cut_records (suc n) xs le
cut_records (suc n) (Served id ∷ xs) le = cut_records (suc n) xs le
cut_records (suc n) (Yielded ∷ xs) le = cut_records (suc n) xs le
cut_records (suc n) (Published k r ∷ xs) le = ap suc (cut_records n xs (omega (arith, le)))

-- place n is the same of the whole page and of the front's
pub cut_page : (n : ℕ) (xs : List Entry) → n ≤ length (records_of xs) → slice_get (page_of (records_of (up_to n xs))) n ≡ slice_get (page_of (records_of xs)) n
cut_page n xs le =
    let len = cut_records n xs le in
    let whole : records_of xs ≡ records_of (up_to n xs) ++ records_of (past n xs) = ap records_of (sym (cut_whole n xs)) ∙ filter_map-append record_in (up_to n xs) (past n xs) in
    let lt : n < length (page_of (records_of (up_to n xs))) = omega (arith, len) in
    sym (slice_get_front (page_of (records_of (up_to n xs))) (records_of (past n xs)) n lt) ∙ ap (λ l. slice_get (page_of l) n) (sym whole)

-- more entries take no fewer commands
pub taken_more : (xs ys : List Entry) → (state_after xs).taken ≤ (state_after (xs ++ ys)).taken
taken_more xs ys =
    let a = taken-all xs in let b = taken-all (xs ++ ys) in
    let e : length (commands_of (xs ++ ys)) ≡ length (commands_of xs) + length (commands_of ys) = ap length (filter_map-append command_in xs ys) ∙ length-append (commands_of xs) (commands_of ys) in
    omega (arith, a, b, e)

-- A call's run against a chip comes to what its script comes to: for every script and every chip, from any books, in both modes, for any caller.
use Rattle.std.specs.Prelude.{◌≡◌, refl, Bool, true, false, ◌||◌, List, [], ◌∷◌, ◌++◌, ℕ, zero, suc, ◌≤◌, eqb, leb, ltb, length}
use Rattle.std.proofs.Common.{ap, ap₂, ◌∙◌, append-nil, arith, le-ltb}
use Rattle.framing.specs.Frames.{ack}
use Rattle.framing.specs.Intact.{ack_no_command}
use Rattle.framing.specs.Padded.{unpadded}
use Rattle.framing.specs.Unpadded.{length-unpadded}
use Rattle.exchange.specs.Packets.{command_frame, Reply}
use Rattle.exchange.specs.Exchange.{Order, write, read, pause, ok, pkt, time, slept, pending, sending, reading, waiting, first_read_time}
use Rattle.protocol.specs.Scripts.{Byte, Answer, Script, finish, command, reset, field_pause}
use Rattle.protocol.specs.Calls.{Call, is_opening, reset_mode_code, reset_mode_data}
use Rattle.protocol.specs.Names.{command_clock, reset_pause_time, field_pause_time, opening_read_time}
use Rattle.protocol.specs.Starts.{data_limit, start_of, starts}
use Rattle.protocol.specs.Session.{Rest, by_reply, of_reset, exchange, reset_ack, reset_pause, field_pausing, opening_ack, opening_reads, start_script, after_reply, progress, begin, idle, busy, Books, last_caller, books_for, book_order, book_answer, Session, packet_limit, call, event, orders, answers, buffer_need, StepResult, step}
use Rattle.protocol.specs.Runs.{session_at, settled, run_answer, run_state, run_events, exchange_books, run_books}
use Rattle.protocol.proofs.RunLaws.{fit-start, fit-reply, call_begins, stepped-plain, plain_ok, plain_slept, plain_time, plain-packet, plain-ack}
use Rattle.chip_protocol.specs.Packets.{Response, response_packet, ResponseFits}
use Rattle.chip_protocol.specs.Channel.{Channel, channel, event_for, channel_after}
use Rattle.chip_protocol.specs.Claim.{PacketsFit}
use Rattle.chip_protocol.specs.Script.{replied, Responder, Fits, packets_for, state_for, chip_of, AllBytes, Sends, peer_of}
use Rattle.chip_protocol.specs.Intact.{all_bytes_lem}
use Rattle.chip_protocol.proofs.Intact.{response_intact, response_short, response_not_ack, response_not_empty, response_unpadded, command_heard, ack_led_lem, ack-start}
use Rattle.chip_protocol.specs.Run.{play_end, play, reads_and, opening_books, play_from}

or-true : (t : Bool) → (t || true) ≡ true
or-true true = refl
or-true false = refl

-- ---- an exchange

first-packet : (code clock : ℕ) (rest : Rest) → eqb clock 0 ≡ false → progress (exchange (reading code clock) rest) (pkt ack) ≡ pending (read clock) (exchange (waiting code clock) rest)
first-packet code clock rest h = rw (ack-start, ack_led_lem, h)

second-packet : (code clock : ℕ) (rest : Rest) (x : Response) → ResponseFits x
    → progress (exchange (waiting code clock) rest) (pkt (response_packet code x)) ≡ after_reply rest (replied x)
second-packet code clock rest x h = rw (response_not_empty code x h, response_not_ack code x h, response_intact code x h)

reset_bytes : AllBytes (reset_mode_code ∷ reset_mode_data)
reset_bytes = (omega arith, (omega arith, tt))

module _ (C : Responder) (Good : C.State → Type 0) (sound : Fits C Good) (room : ℕ) (roomy : ltb room buffer_need ≡ false) (c : Call) where
  over : (n : ℕ) (s : Session) (l : Channel (chip_of C)) (a : Answer Byte) → play C room n s l (answers a) ≡ play_end C s l (answers a) n
  over zero s l a = refl
  over (suc n) s l a = refl

  on : (n : ℕ) (s : Session) (l m : Channel (chip_of C)) (x : Order) (r : StepResult Session Byte) → step s (event (event_for (chip_of C) l x) room) ≡ r → channel_after (chip_of C) l x ≡ m
      → play C room (suc n) s l (orders x) ≡ play_from C room n r m
  on n s l m x r p q = ap₂ (λ (y : StepResult Session Byte) (k : Channel (chip_of C)). play_from C room n y k) p q

  -- three events
  exchanged : (n code clock : ℕ) (bytes : List ℕ) (rest : Rest) (b : Books) (s : C.State) → Good s → eqb clock 0 ≡ false → AllBytes (code ∷ bytes) → length bytes ≤ data_limit
      → play_from C room (suc (suc (suc n))) (settled c b (pending (write (command_frame code bytes)) (exchange (sending code clock) rest))) (channel (chip_of C) s [])
      ≡ play_from C room n (settled c (exchange_books code clock bytes b) (after_reply rest (replied (C.response s code bytes)))) (channel (chip_of C) (C.after s code bytes) [])
  exchanged n code clock bytes rest b s g awaits isBytes short =
      let x : Response = C.response s code bytes in
      let fits = sound.fits s g code bytes in
      let f : List ℕ = command_frame code bytes in
      let b₁ : Books = book_order (write f) b in
      let b₂ : Books = book_order (read first_read_time) b₁ in
      let b₃ : Books = book_order (read clock) b₂ in
      let l₁ : Channel (chip_of C) = channel (chip_of C) (C.after s code bytes) (ack ∷ response_packet code x ∷ []) in
      let l₂ : Channel (chip_of C) = channel (chip_of C) (C.after s code bytes) (response_packet code x ∷ []) in
      let l₃ : Channel (chip_of C) = channel (chip_of C) (C.after s code bytes) [] in
      on (suc (suc n)) (session_at (busy c (exchange (sending code clock) rest)) b₁) (channel (chip_of C) s []) l₁ (write f)
      (settled c b₁ (pending (read first_read_time) (exchange (reading code clock) rest)))
      (stepped-plain c (exchange (sending code clock) rest) b₁ ok room (pending (read first_read_time) (exchange (reading code clock) rest)) roomy plain_ok refl refl)
      (ap (λ (h : List ℕ). channel (chip_of C) (state_for C s h) (packets_for C s h)) (command_heard code bytes (all_bytes_lem (code ∷ bytes) isBytes) short))
      ∙ on (suc n) (session_at (busy c (exchange (reading code clock) rest)) b₂) l₁ l₂ (read first_read_time)
      (settled c b₂ (pending (read clock) (exchange (waiting code clock) rest)))
      (stepped-plain c (exchange (reading code clock) rest) b₂ (pkt ack) room (pending (read clock) (exchange (waiting code clock) rest)) roomy plain-ack (first-packet code clock rest awaits) refl)
      refl
      ∙ on n (session_at (busy c (exchange (waiting code clock) rest)) b₃) l₂ l₃ (read clock)
      (settled c b₃ (after_reply rest (replied x)))
      (stepped-plain c (exchange (waiting code clock) rest) b₃ (pkt (response_packet code x)) room (after_reply rest (replied x)) roomy
      (plain-packet (response_packet code x) (response_short code x fits) (response_unpadded code x fits)) (second-packet code clock rest x fits) (fit-reply rest (replied x)))
      refl

  -- the theorem
  pub run-script : (x : Script) (m : ℕ) (b : Books) (s : C.State) → Good s → Sends x
      → play_from C room (run_events (peer_of C) m x s) (settled c b (start_script x)) (channel (chip_of C) s [])
      ≡ play_end C (session_at idle (book_answer c (run_answer (peer_of C) x s) (run_books (peer_of C) x s b))) (channel (chip_of C) (run_state (peer_of C) x s) []) (answers (run_answer (peer_of C) x s)) m
  run-script (finish a) m b s g h = over m (session_at idle (book_answer c a b)) (channel (chip_of C) s []) a
  run-script (command code clock bytes k) m b s g h =
      exchanged (run_events (peer_of C) m (k (replied (C.response s code bytes))) (C.after s code bytes)) code clock bytes (by_reply k) b s g h.0 h.1 h.2
      ∙ run-script (k (replied (C.response s code bytes))) m (exchange_books code clock bytes b) (C.after s code bytes) (sound.good s g code bytes) (h.3 (replied (C.response s code bytes)))
  run-script (reset x) m b s g h =
      let t : C.State = C.after s reset_mode_code reset_mode_data in
      let r : Reply = replied (C.response s reset_mode_code reset_mode_data) in
      let b₁ : Books = exchange_books reset_mode_code command_clock reset_mode_data b in
      let b₂ : Books = book_order (write ack) b₁ in
      let b₃ : Books = book_order (pause reset_pause_time) b₂ in
      exchanged (suc (suc (run_events (peer_of C) m x t))) reset_mode_code command_clock reset_mode_data (of_reset x) b s g refl reset_bytes (omega arith)
      ∙ on (suc (run_events (peer_of C) m x t)) (session_at (busy c (reset_ack x)) b₂) (channel (chip_of C) t []) (channel (chip_of C) t []) (write ack)
      (settled c b₂ (pending (pause reset_pause_time) (reset_pause x)))
      (stepped-plain c (reset_ack x) b₂ ok room (pending (pause reset_pause_time) (reset_pause x)) roomy plain_ok refl refl)
      (ap (λ (h : List ℕ). channel (chip_of C) (state_for C t h) (packets_for C t h)) ack_no_command)
      ∙ on (run_events (peer_of C) m x t) (session_at (busy c (reset_pause x)) b₃) (channel (chip_of C) t []) (channel (chip_of C) t []) (pause reset_pause_time)
      (settled c b₃ (start_script x))
      (stepped-plain c (reset_pause x) b₃ slept room (start_script x) roomy plain_slept refl (fit-start x)) refl
      ∙ run-script x m b₃ t (sound.good s g reset_mode_code reset_mode_data) h
  run-script (field_pause x) m b s g h =
      on (run_events (peer_of C) m x s) (session_at (busy c (field_pausing x)) (book_order (pause field_pause_time) b)) (channel (chip_of C) s []) (channel (chip_of C) s []) (pause field_pause_time)
      (settled c (book_order (pause field_pause_time) b) (start_script x))
      (stepped-plain c (field_pausing x) (book_order (pause field_pause_time) b) slept room (start_script x) roomy plain_slept refl (fit-start x)) refl
      ∙ run-script x m (book_order (pause field_pause_time) b) s g h

  -- ---- from an idle session

  pub run_call : (x : Script) (m caller : ℕ) (b : Books) (s : C.State) → Good s → Sends x → is_opening c ≡ false → b.opened ≡ true → leb caller last_caller ≡ true → start_of c ≡ starts x
      → play_from C room (run_events (peer_of C) m x s) (step (session_at idle b) (call caller c room)) (channel (chip_of C) s [])
      ≡ play_end C (session_at idle (book_answer c (run_answer (peer_of C) x s) (run_books (peer_of C) x s (books_for caller c b)))) (channel (chip_of C) (run_state (peer_of C) x s) []) (answers (run_answer (peer_of C) x s)) m
  run_call x m caller b s g h n o k e =
      ap (λ (r : StepResult Session Byte). play_from C room (run_events (peer_of C) m x s) r (channel (chip_of C) s []))
      (call_begins x caller c room b (record { admitted = rw o; roomy = roomy; known = k; begins = e }) ∙ ap (λ t. settled c (books_for caller c b) (begin t x)) n)
      ∙ run-script x m (books_for caller c b) s g h

  stale : (x : Script) (b : Books) (p : List ℕ) → length p ≤ packet_limit
      → step (session_at (busy c (opening_reads x)) b) (event (pkt p) room) ≡ settled c b (pending (read opening_read_time) (opening_reads x))
  stale x b p h = go b.padded refl
    where
      plain : ltb packet_limit (length p) ≡ false
      plain = le-ltb packet_limit (length p) h

      bare : ltb packet_limit (length (unpadded p)) ≡ false
      bare = le-ltb packet_limit (length (unpadded p)) (omega (arith, length-unpadded p))

      go : (t : Bool) → b.padded ≡ t → step (session_at (busy c (opening_reads x)) b) (event (pkt p) room) ≡ settled c b (pending (read opening_read_time) (opening_reads x))
      go true e = rw (e, plain, roomy, bare)
      go false e = rw (e, roomy, plain)

  drained : (x : Script) (n : ℕ) (q : List (List ℕ)) (b : Books) (s : C.State) → PacketsFit q
      → play_from C room (reads_and n q) (settled c b (pending (read opening_read_time) (opening_reads x))) (channel (chip_of C) s q)
      ≡ play_from C room n (settled c (opening_books q b) (start_script x)) (channel (chip_of C) s [])
  drained x n [] b s h =
      on n (session_at (busy c (opening_reads x)) (book_order (read opening_read_time) b)) (channel (chip_of C) s []) (channel (chip_of C) s []) (read opening_read_time)
      (settled c (book_order (read opening_read_time) b) (start_script x))
      (stepped-plain c (opening_reads x) (book_order (read opening_read_time) b) time room (start_script x) roomy plain_time refl (fit-start x)) refl
  drained x n (p ∷ q) b s h =
      on (reads_and n q) (session_at (busy c (opening_reads x)) (book_order (read opening_read_time) b)) (channel (chip_of C) s (p ∷ q)) (channel (chip_of C) s q) (read opening_read_time)
      (settled c (book_order (read opening_read_time) b) (pending (read opening_read_time) (opening_reads x)))
      (stale x (book_order (read opening_read_time) b) p h.0) refl
      ∙ drained x n q (book_order (read opening_read_time) b) s h.1

  pub run_opening : (x : Script) (m caller : ℕ) (b : Books) (s : C.State) (q : List (List ℕ)) → Good s → Sends x → PacketsFit q → is_opening c ≡ true → leb caller last_caller ≡ true → start_of c ≡ starts x
      → (let b₁ = opening_books q (book_order (write ack) (books_for caller c b)) in
      play_from C room (suc (reads_and (run_events (peer_of C) m x s) q)) (step (session_at idle b) (call caller c room)) (channel (chip_of C) s q)
      ≡ play_end C (session_at idle (book_answer c (run_answer (peer_of C) x s) (run_books (peer_of C) x s b₁))) (channel (chip_of C) (run_state (peer_of C) x s) []) (answers (run_answer (peer_of C) x s)) m)
  run_opening x m caller b s q g h short o k e =
      let n : ℕ = reads_and (run_events (peer_of C) m x s) q in
      let b₁ : Books = book_order (write ack) (books_for caller c b) in
      ap (λ (r : StepResult Session Byte). play_from C room (suc n) r (channel (chip_of C) s q))
      (call_begins x caller c room b (record { admitted = rw o (or-true b.opened); roomy = roomy; known = k; begins = e }) ∙ ap (λ t. settled c (books_for caller c b) (begin t x)) o)
      ∙ on n (session_at (busy c (opening_ack x)) b₁) (channel (chip_of C) s q) (channel (chip_of C) s q) (write ack)
      (settled c b₁ (pending (read opening_read_time) (opening_reads x)))
      (stepped-plain c (opening_ack x) b₁ ok room (pending (read opening_read_time) (opening_reads x)) roomy plain_ok refl refl)
      (ap (λ (t : List ℕ). channel (chip_of C) (state_for C s t) (q ++ packets_for C s t)) ack_no_command ∙ ap (channel (chip_of C) s) (append-nil q))
      ∙ drained x (run_events (peer_of C) m x s) q b₁ s short
      ∙ run-script x m (opening_books q b₁) s g h

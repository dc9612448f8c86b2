pub mod OneAnswerEach

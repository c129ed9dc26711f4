pub mod HearingLaws

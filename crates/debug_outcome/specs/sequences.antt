pub mod BadSequences
